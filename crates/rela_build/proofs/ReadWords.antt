-- Languages of words of letters, read as words of symbols.
use Rattle.std.proofs.Common.{◌≡◌, ℕ, ◌<◌, ◌↔◌, Bool, true, List, [], ◌∷◌, map, refl, sym, ap, ◌∙◌, subst}
use Rattle.std.specs.List.{All}
use Rattle.std.proofs.lemmas.List.{map-append}
use Rattle.std.proofs.lemmas.List.Elements.{All-map, All-weaker}
use Rattle.rela_labels.specs.Letters.{has}
use Rattle.rela_nfa.specs.Languages.{Joins, Repeats, IsLetterOf}
use Rattle.rela_rir.specs.Words.{WordSet, Concatenation, Star}
use Rattle.rela_rir.specs.Meaning.{IsPathWord}
use Rattle.rela_build.specs.Complement.{IsOver}
use Rattle.rela_build.proofs.SplitWords.{cut, cut_all, read_pieces, unmapped}

module _ (f : ℕ → ℕ) where
  -- the words of letters in A are those of the words of symbols in X
  abbrev pub Reads : WordSet → WordSet → Type 0
  Reads A X = (w : List ℕ) → A (map f w) ↔ X w

  -- the same words of letters are those of the same words of symbols
  pub read_as : (A B X : WordSet) → ((w : List ℕ) → A w ↔ B w) → Reads B X → Reads A X
  read_as A B X same reads w = (λ h. (reads w).0 ((same (map f w)).0 h), λ h. (same (map f w)).1 ((reads w).1 h))

  no_symbols : (w : List ℕ) → map f w ≡ [] → w ≡ []
  no_symbols [] e = e
  no_symbols (s ∷ w) e = absurd cc

  pub no_letters : Reads (λ w. w ≡ []) (λ w. w ≡ [])
  no_letters w = (no_symbols w, λ e. ap (map f) e)

  pub joined : (A B X Y : WordSet) → Reads A X → Reads B Y → Reads (Joins A B) (Concatenation X Y)
  joined A B X Y a b w = (
    λ (front, rest, whole, in_front, in_rest).
        let parts = cut f w front rest whole in record {
          front = parts.head;
          rest = parts.tail;
          split = parts.joined;
          in_front = (a parts.head).0 (subst A (sym parts.front_is) in_front);
          in_rest = (b parts.tail).0 (subst B (sym parts.rest_is) in_rest);
        },
    λ c. (
      map f c.front,
      map f c.rest,
      sym (map-append f c.front c.rest) ∙ ap (map f) (sym c.split),
      (a c.front).1 c.in_front,
      (b c.rest).1 c.in_rest,
    ),
  )

  pub repeated : (A X : WordSet) → Reads A X → Reads (Repeats A) (Star X)
  repeated A X a w = (
    λ (pieces, each, whole).
        let parts = cut_all f pieces w whole in record {
          pieces = parts.parts;
          joined = parts.joined;
          each = All-weaker (λ p. A (map f p)) X (λ p. (a p).0) parts.parts
              (unmapped A (map f) parts.parts (subst (All A) (sym parts.read) each));
        },
    λ s. (
      map (map f) s.pieces,
      All-map A (map f) s.pieces (All-weaker X (λ p. A (map f p)) (λ p. (a p).1) s.pieces s.each),
      read_pieces f s.pieces ∙ ap (map f) (sym s.joined),
    ),
  )

  pub over : (set : List Bool) (n : ℕ) → ((s : ℕ) → (has set (f s) ≡ true) ↔ (s < n)) → Reads (IsOver set) (IsPathWord n)
  over set n holds w = (
    λ each. All-weaker (λ s. has set (f s) ≡ true) (λ s. s < n) (λ s. (holds s).0) w (unmapped (λ k. has set k ≡ true) f w each),
    λ each. All-map (λ k. has set k ≡ true) f w (All-weaker (λ s. s < n) (λ s. has set (f s) ≡ true) (λ s. (holds s).1) w each),
  )

  -- the words of one symbol with P
  abbrev pub OneOf : (ℕ → Type 0) → WordSet
  OneOf P w = (s : ℕ) × (w ≡ s ∷ []) × P s

  one_letter : (k : ℕ) (w : List ℕ) → map f w ≡ k ∷ [] → (s : ℕ) × (w ≡ s ∷ []) × (f s ≡ k)
  one_letter k [] e = absurd cc
  one_letter k (s ∷ []) e = (s, refl, cc)
  one_letter k (s ∷ t ∷ w) e = absurd cc

  pub letter : (set : List Bool) (P : ℕ → Type 0) → ((s : ℕ) → (has set (f s) ≡ true) ↔ P s) → Reads (IsLetterOf set) (OneOf P)
  letter set P holds w = (
    λ (k, among, e).
        let one = one_letter k w e in
        (one.0, one.1, (holds one.0).0 (ap (has set) one.2 ∙ among)),
    λ (s, e, is). (f s, (holds s).1 is, ap (map f) e),
  )

  pub own : (k s : ℕ) → k ≡ f s → ((t : ℕ) → f t ≡ k → t ≡ s) → Reads (λ w. w ≡ k ∷ []) (λ w. w ≡ s ∷ [])
  own k s is alone w = (
    λ e. let one = one_letter k w e in one.1 ∙ ap (λ (r : ℕ). r ∷ []) (alone one.0 one.2),
    λ e. ap (map f) e ∙ ap (λ (j : ℕ). j ∷ []) (sym is),
  )
