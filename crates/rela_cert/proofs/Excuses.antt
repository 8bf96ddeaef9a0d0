-- Why a row isn't listed: too many words are told apart, or a word offends.
use Rattle.std.proofs.Common.{◌≡◌, ◌∙◌, ℕ, zero, suc, ◌+◌, ◌<◌, ◌⊎◌, Bool, true, None, Some, List, [], ◌∷◌, ◌++◌, length, get_or, map, inl, inr, refl, sym, ap, subst, arith}
use Rattle.std.specs.Prelude.{Contains, Option}
use Rattle.std.specs.List.{All, AllPairs}
use Rattle.std.specs.Option.{ForSome}
use Rattle.std.proofs.lemmas.List.{get_or-map, length-map}
use Rattle.std.proofs.lemmas.List.Elements.{All-cons, All-head, All-nil, All-tail, Contains-append_cases}
use Rattle.rela_blocks.specs.FlowName.{paths_at}
use Rattle.rela_blocks.specs.RowBlocks.{symbols_of}
use Rattle.rela_blocks.specs.Scenes.{after_image, before_image, lettering_of}
use Rattle.rela_build.specs.Complement.{IsOver, ReachApart}
use Rattle.rela_build.specs.Lettering.{AreLetterBlocks, Lettering}
use Rattle.rela_build.specs.Made.{IsMade, Leads}
use Rattle.rela_build.specs.Notes.{IsRefused, StoppedTwo}
use Rattle.rela_build.specs.PathSets.{Paths, scene_of}
use Rattle.rela_build.specs.Reading.{HoldsJust, read_by}
use Rattle.rela_build.specs.declared.stop.Stop.{Stop}
use Rattle.rela_build.specs.declared.stop.Stop.TheVariants.{Limit, Memory, Refused}
use Rattle.rela_closed.specs.Closed.{AreApart, ReachSets}
use Rattle.rela_labels.specs.Letters.{has}
use Rattle.rela_names.specs.Shortlex.{IsBefore}
use Rattle.rela_nfa.specs.Automaton.{Automaton}
use Rattle.rela_nfa.specs.Runs.{Accepts}
use Rattle.rela_rir.specs.Complements.{complemented_parts}
use Rattle.rela_rir.specs.Limit.{IsCheckWord, Reached, ReachedInside, ReachedPair}
use Rattle.rela_rir.specs.Meaning.{IsPathWord}
use Rattle.rela_rir.specs.Places.{Scene}
use Rattle.rela_rir.specs.ReachedTerms.{ReachedTerms}
use Rattle.rela_rir.specs.Tables.{IsPlaced, ManyWords, ToldByState}
use Rattle.rela_rir.specs.declared.term.PathTerm.{PathTerm}
use Rattle.rela_rir.specs.declared.term.PathTerm.TheVariants as P
use Rattle.rela_translate.specs.Verdict.{Offends}
use Rattle.rela_cert.specs.Certified.{IsExcused}
use Rattle.rela_cert.specs.RowNames.{RowName, row_machines}
use Rattle.rela_cert.proofs.ByStates.{symbol_for}
use Rattle.rela_cert.proofs.RowWords.{offends_by}
use Rattle.rela_cert.proofs.TermsMean.{ImagesMean}

mapped_pairs : {X Y : Type 0} (R : Y → Y → Type 0) (f : X → Y) (xs : List X) → AllPairs R (map f xs) → AllPairs (λ x y. R (f x) (f y)) xs
mapped_pairs R f xs pairs i j d before inside =
    let second = get_or-map f xs j d (f d) inside in
    let first = get_or-map f xs i d (f d) (omega (arith, before, inside)) in
    subst (λ y. R y (f (get_or xs j d))) first
    (subst (λ y. R (get_or (map f xs) i (f d)) y) second
    (pairs i j (f d) before (omega (arith, inside, length-map xs f))))

-- a complement in the term with so many reached places is one that is inside it
abbrev pub ComplementsInside : Scene → Type 0
ComplementsInside m = (k : ℕ) (x part : PathTerm) → Contains (complemented_parts x) part → Reached m (P.Complement part) k → ReachedInside m k x

module _ (at : RowName) (reached : ReachedTerms row_machines at) (blocks : List ℕ) (are : AreLetterBlocks (lettering_of at.check at.locations blocks)) where
  abbrev l : Lettering
  l = lettering_of at.check at.locations blocks

  abbrev paths : Paths
  paths = paths_at at.flow

  abbrev m : Scene
  m = scene_of l paths

  abbrev f : ℕ → ℕ
  f = read_by l.blocks

  placed : (E : Type 0) (x : PathTerm) (a : Automaton) → IsMade E l paths x a → IsPlaced m x (Leads l.blocks a)
  unfolding IsMade
  placed E x a made = record { table = made.table; is_table = made.placed }

  -- ---- words of symbols for words of letters

  module _ (n : ℕ) (over : List Bool) (holds : HoldsJust l.blocks (λ s. s < n) over) where
    pub word_for : (v : List ℕ) → IsOver over v → (w : List ℕ) × IsPathWord n w × (map f w ≡ v)
    word_for [] each = ([], All-nil (λ s. s < n), refl)
    word_for (k ∷ v) each =
        let among : has over k ≡ true = All-head (λ j. has over j ≡ true) k v each in
        let rest = word_for v (All-tail (λ j. has over j ≡ true) k v each) in
        let symbol = symbol_for (Unit {0}) l are paths n over holds k among in (
          symbol.0 ∷ rest.0,
          All-cons (λ s. s < n) symbol.0 rest.0 symbol.1 rest.1,
          ap (λ (j : ℕ). j ∷ map f rest.0) symbol.2 ∙ ap (λ (u : List ℕ). k ∷ u) rest.2,
        )

    words_for : (vs : List (List ℕ)) → All (IsOver over) vs → (ws : List (List ℕ)) × All (IsPathWord n) ws × (map (map f) ws ≡ vs)
    words_for [] each = ([], All-nil (IsPathWord n), refl)
    words_for (v ∷ vs) each =
        let first = word_for v (All-head (IsOver over) v vs each) in
        let rest = words_for vs (All-tail (IsOver over) v vs each) in (
          first.0 ∷ rest.0,
          All-cons (IsPathWord n) first.0 rest.0 first.1 rest.1,
          ap (λ (u : List ℕ). u ∷ map (map f) rest.0) first.2 ∙ ap (λ (us : List (List ℕ)). v ∷ us) rest.2,
        )

    module _ (automata : List Automaton) (told : List ℕ → List ℕ → Type 0) (tells : (v w : List ℕ) → AreApart automata (map f v) (map f w) → told v w) (P : List ℕ → Type 0)
        (has_P : (w : List ℕ) → IsPathWord n w → P w) where
      many_words : (k : ℕ) → ReachSets over automata k → ManyWords P told k
      many_words k sets =
          let ws = words_for sets.words sets.letters in record {
            words = ws.0;
            many = sym (length-map ws.0 (map f)) ∙ ap length ws.2 ∙ sets.count;
            each = λ i d below. has_P (get_or ws.0 i d) (ws.1 i d below);
            apart = λ i j d before within. tells (get_or ws.0 i d) (get_or ws.0 j d)
                (mapped_pairs (AreApart automata) (map f) ws.0 (subst (AllPairs (AreApart automata)) (sym ws.2) sets.apart) i j d before within);
          }

  told_apart : (a : Automaton) (v w : List ℕ) → ReachApart a (map f v) (map f w) → ToldByState (Leads l.blocks a) v w
  told_apart a v w (q, inl first) = (q, inl first)
  told_apart a v w (q, inr second) = (q, inr (second.1, second.0))

  told_one : (a : Automaton) (v w : List ℕ) → AreApart (a ∷ []) (map f v) (map f w) → ToldByState (Leads l.blocks a) v w
  told_one a v w (b, (zero, below, is), apart) = told_apart a v w (subst (λ (c : Automaton). ReachApart c (map f v) (map f w)) (sym is) apart)
  told_one a v w (b, (suc k, below, is), apart) = absurd (omega (arith, below))

  told_two : (a b : Automaton) (v w : List ℕ) → AreApart (a ∷ b ∷ []) (map f v) (map f w) → ToldByState (Leads l.blocks a) v w ⊎ ToldByState (Leads l.blocks b) v w
  told_two a b v w (c, (zero, below, is), apart) = inl (told_apart a v w (subst (λ (d : Automaton). ReachApart d (map f v) (map f w)) (sym is) apart))
  told_two a b v w (c, (suc zero, below, is), apart) = inr (told_apart b v w (subst (λ (d : Automaton). ReachApart d (map f v) (map f w)) (sym is) apart))
  told_two a b v w (c, (suc (suc k), below, is), apart) = absurd (omega (arith, below))

  -- ---- a complement is refused

  has_part : (parts before later : List PathTerm) (part : PathTerm) → parts ≡ before ++ part ∷ later → Contains parts part
  has_part parts before later part whole = subst (λ (ps : List PathTerm). Contains ps part) (sym whole) (listed before) where
    listed : (front : List PathTerm) → Contains (front ++ part ∷ later) part
    listed [] = (0, omega arith, refl)
    listed (p ∷ front) = let rest = listed front in (suc rest.0, omega (arith, rest.1), rest.2)

  abbrev pub Refuses : ℕ → ℕ → Automaton → List Bool → Type 0
  Refuses k number a over = ReachSets over (a ∷ []) k

  refused_inside : ComplementsInside m → (x y : PathTerm) (first k number : ℕ) → IsRefused (Refuses k) (Unit {0}) l paths first (complemented_parts x ++ complemented_parts y) number
      → ReachedInside m k x ⊎ ReachedInside m k y
  refused_inside inside x y first k number refused =
      let many = reached.complement refused.part (blocks, refused.automaton) (placed (Unit {0}) refused.part refused.automaton refused.is.made) k
      (many_words l.path_symbols refused.over refused.is.of_path (refused.automaton ∷ []) (ToldByState (Leads l.blocks refused.automaton)) (told_one refused.automaton)
      (IsPathWord l.path_symbols) (λ w path. path) k refused.refused) in
      elim (Contains-append_cases (complemented_parts x) (complemented_parts y) refused.part
      (has_part (complemented_parts x ++ complemented_parts y) refused.before refused.later refused.part refused.whole)) [
        | inl one ↦ inl (inside k x refused.part one many)
        | inr two ↦ inr (inside k y refused.part two many)
      ]

  pub stopped_inside : ComplementsInside m → (x y : PathTerm) (limit first : ℕ) (e : Stop) → StoppedTwo (Refuses (limit + 1)) (Unit {0}) l paths limit first x y e → ¬ (e ≡ Memory)
      → ReachedInside m (limit + 1) x ⊎ ReachedInside m (limit + 1) y
  unfolding StoppedTwo
  stopped_inside inside x y limit first Limit stopped other = stopped
  stopped_inside inside x y limit first (Refused number) stopped other = refused_inside inside x y first (limit + 1) number stopped
  stopped_inside inside x y limit first Memory stopped other = absurd (other refl)

  -- ---- too many words of the images

  pub many_pairs : (n : ℕ) → n ≡ l.path_symbols + l.markers → (over : List Bool) → HoldsJust l.blocks (λ s. s < n) over → (x y : PathTerm) (a b : Automaton)
      → IsMade (Unit {0}) l paths x a → IsMade (Unit {0}) l paths y b → (k : ℕ) → ReachSets over (a ∷ b ∷ []) k → ReachedPair m None x y k
  many_pairs n is over holds x y a b one two k sets =
      let none : Option (List ℕ) = None in
      reached.comparison none x y (blocks, a) (blocks, b) (placed (Unit {0}) x a one) (placed (Unit {0}) y b two) k
      (many_words n over holds (a ∷ b ∷ []) (λ v w. ToldByState (Leads l.blocks a) v w ⊎ ToldByState (Leads l.blocks b) v w) (told_two a b)
      (λ w. IsCheckWord m w × ForSome none (λ end. ¬ IsBefore end w))
      (λ w path. (subst (λ (c : ℕ). IsPathWord c w) is path, λ end same. let e : none ≡ Some end = same in absurd cc)) k sets)

-- ---- a row

module _ (at : RowName) (reached : ReachedTerms row_machines at) (blocks : List ℕ) (are : AreLetterBlocks (lettering_of at.check at.locations blocks)) (limit : ℕ) where
  pub stopped_excused : ComplementsInside (m at reached blocks are) → (first : ℕ) (e : Stop)
      → StoppedTwo (λ number a over. ReachSets over (a ∷ []) (limit + 1)) (Unit {0}) (lettering_of at.check at.locations blocks) (paths_at at.flow) limit first
      (before_image at.check at.locations) (after_image at.check at.locations) e
      → ¬ (e ≡ Memory) → IsExcused at.locations limit at.check (paths_at at.flow)
  stopped_excused inside first e stopped other =
      inr (elim (stopped_inside at reached blocks are inside (before_image at.check at.locations) (after_image at.check at.locations) limit first e stopped other) [
        | inl before ↦ inl before
        | inr after ↦ inr (inl after)
      ])

  module _ (a b : Automaton) (before : IsMade (Unit {0}) (lettering_of at.check at.locations blocks) (paths_at at.flow) (before_image at.check at.locations) a)
      (after : IsMade (Unit {0}) (lettering_of at.check at.locations blocks) (paths_at at.flow) (after_image at.check at.locations) b)
      (over : List Bool) (holds : HoldsJust blocks (λ s. s < symbols_of at.check at.locations) over) where
    pub many_excused : ReachSets over (a ∷ b ∷ []) (limit + 1) → IsExcused at.locations limit at.check (paths_at at.flow)
    many_excused sets =
        inr (inr (inr (many_pairs at reached blocks are (symbols_of at.check at.locations) refl over holds (before_image at.check at.locations) (after_image at.check at.locations) a b before after (limit + 1) sets)))

    pub offence_excused : ImagesMean at.check at.locations (paths_at at.flow) → (word : List ℕ) → IsOver over word → Offends at.check.at_most (Accepts a) (Accepts b) word
        → IsExcused at.locations limit at.check (paths_at at.flow)
    offence_excused means word read offends =
        let found = word_for at reached blocks are (symbols_of at.check at.locations) over holds word read in
        inl (
          found.0,
          offends_by (Unit {0}) at.check at.locations (paths_at at.flow) means blocks a b before after at.check.at_most found.0
              (subst (Offends at.check.at_most (Accepts a) (Accepts b)) (sym found.2) offends),
        )
