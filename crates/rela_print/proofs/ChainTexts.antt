-- The texts of many parts, and of parts joined by what stands between them.
use Rattle.std.proofs.Common.{◌≡◌, ℕ, List, [], ◌∷◌, ◌++◌, map, refl, sym, ap, ◌∙◌, subst}
use Rattle.std.specs.Prelude.{⊤}
use Rattle.rela_print.specs.Joined.{behind, joined}
use Rattle.rela_spec.specs.Phrases.{Phrase, done, many, chain, joined_parts, ◌>>=◌, ◌>>◌}
use Rattle.rela_print.proofs.JoinedTexts.{joined_first}
use Rattle.rela_print.proofs.Sources.{Each}
use Rattle.rela_print.proofs.TextPieces.{Tame, tame_none, tame_join, Reads, Stops, reads_then, reads_as}

module _ {A B : Type 0} (m : ℕ) (R : Phrase A) (f : A → B) where
  -- the value is that one but for what f leaves out
  abbrev pub Alike : A → A → Type 0
  Alike v w = f w ≡ f v

  abbrev pub AllAlike : List A → List A → Type 0
  AllAlike vs ws = map f ws ≡ map f vs

  pub reads_none : {C : List ℕ → Type 0} → Reads C (many R) [] (AllAlike []) (Tame m m)
  reads_none = record {
    found = λ at rest c. record { pieces = []; spelled = refl; stands = tt; value = []; right = refl; phrase = λ b. refl; tokens = tame_none m };
  }

  abbrev more_of : A → Phrase (List A)
  more_of w ts ws b = (ys : List A) × many R ts ys b × (ws ≡ w ∷ ys)

  -- one part before others
  pub reads_one_more : {C D : List ℕ → Type 0} (v : A) (vs : List A) (t u : List ℕ) → ((rest : List ℕ) → D rest → C (u ++ rest))
      → Reads C R t (Alike v) (Tame m m) → Reads D (many R) u (AllAlike vs) (Tame m m) → Reads D (many R) (t ++ u) (AllAlike (v ∷ vs)) (Tame m m)
  reads_one_more v vs t u stops first others =
      reads_as (λ (ws : List A). ws) (λ ws h. h) (λ a ws b h. subst (λ (xs : List A). many R a xs b) (sym h.3.2) (h.1, h.2, h.3.1))
      (reads_then {R = R} {S = more_of} {Q = AllAlike (v ∷ vs)} stops tame_join first λ w p.
      reads_as (λ (ws : List A). w ∷ ws) (λ ws q. ap (λ (x : B). x ∷ map f ws) p ∙ ap (λ (xs : List B). f v ∷ xs) q) (λ a ws b h. (ws, h, refl)) others)

  stops_behind : (sep : List ℕ) (text : A → List ℕ) (vs : List A) (rest : List ℕ) → Stops rest → Stops (behind (32 ∷ sep) text vs ++ rest)
  unfolding behind
  stops_behind sep text [] rest c = c
  stops_behind sep text (v ∷ vs) rest c = refl

  pub reads_behind : (sep : List ℕ) (text : A → List ℕ) (vs : List A) → Each (λ v. Reads Stops R (32 ∷ (sep ++ text v)) (Alike v) (Tame m m)) vs
      → Reads Stops (many R) (behind (32 ∷ sep) text vs) (AllAlike vs) (Tame m m)
  unfolding behind
  reads_behind sep text [] each = reads_none
  reads_behind sep text (v ∷ vs) each =
      reads_one_more v vs (32 ∷ (sep ++ text v)) (behind (32 ∷ sep) text vs) (stops_behind sep text vs) each.0 (reads_behind sep text vs each.1)

  -- parts in a row, each with a text before it but the first
  pub reads_row : (sep : List ℕ) (text : A → List ℕ) (vs : List A) → Each (λ v. Reads Stops R (text v) (Alike v) (Tame m m)) vs
      → ((v : A) → Reads Stops R (text v) (Alike v) (Tame m m) → Reads Stops R (32 ∷ (sep ++ text v)) (Alike v) (Tame m m))
      → Reads Stops (many R) (joined (32 ∷ sep) text vs) (AllAlike vs) (Tame m m)
  unfolding joined
  reads_row sep text [] each more = reads_none
  reads_row sep text (v ∷ vs) each more =
      reads_one_more v vs (text v) (behind (32 ∷ sep) text vs) (stops_behind sep text vs) each.0 (reads_behind sep text vs (all vs each.1))
    where
      all : (xs : List A) → Each (λ v. Reads Stops R (text v) (Alike v) (Tame m m)) xs → Each (λ v. Reads Stops R (32 ∷ (sep ++ text v)) (Alike v) (Tame m m)) xs
      all [] each = tt
      all (x ∷ xs) each = (more x each.0, all xs each.1)

-- the whole is joined of parts that are these but for what f leaves out
pub record JoinedAlike {A B : Type 0} (join : List A → A) (f : A → B) (vs : List A) (whole : A) : Type 0 where
  pub parts : List A
  pub joined : whole ≡ join parts
  pub alike : map f parts ≡ map f vs

module _ {A B : Type 0} (m : ℕ) (join : List A → A) (between : Phrase ⊤) (R : Phrase A) (f : A → B) (sep : List ℕ) (text : A → List ℕ) where
  abbrev part_reads : A → Type 0
  part_reads v = Reads Stops R (text v) (λ w. f w ≡ f v) (Tame m m)

  abbrev next_reads : A → Type 0
  next_reads v = Reads Stops (between >> R) (32 ∷ (sep ++ text v)) (λ w. f w ≡ f v) (Tame m m)

  all_next : ((v : A) → part_reads v → next_reads v) → (vs : List A) → Each part_reads vs → Each next_reads vs
  all_next more [] each = tt
  all_next more (v ∷ vs) each = (more v each.0, all_next more vs each.1)

  is_joined : (v next w : A) (vs ws : List A) → f w ≡ f v → map f ws ≡ map f (next ∷ vs) → JoinedAlike join f (v ∷ next ∷ vs) (joined_parts join w ws)
  is_joined v next w vs [] p q = absurd (let never = q in cc)
  is_joined v next w vs (x ∷ ws) p q = record {
    parts = w ∷ x ∷ ws;
    joined = refl;
    alike = ap (λ (y : B). y ∷ map f (x ∷ ws)) p ∙ ap (λ (ys : List B). f v ∷ ys) q;
  }

  pub reads_chain : ((v : A) → part_reads v → next_reads v) → (first next : A) (others : List A) → Each part_reads (first ∷ next ∷ others)
      → Reads Stops (chain join between R) (joined (32 ∷ sep) text (first ∷ next ∷ others)) (JoinedAlike join f (first ∷ next ∷ others)) (Tame m m)
  reads_chain more first next others each =
      subst (λ (t : List ℕ). Reads Stops (chain join between R) t (JoinedAlike join f (first ∷ next ∷ others)) (Tame m m)) (sym (joined_first (32 ∷ sep) text first (next ∷ others)))
      (reads_then {S = λ x. many (between >> R) >>= λ ys. done (joined_parts join x ys)} {Q = JoinedAlike join f (first ∷ next ∷ others)}
      (stops_behind m (between >> R) f sep text (next ∷ others)) tame_join each.0 λ w p.
      reads_as (λ (ws : List A). joined_parts join w ws) (λ ws q. is_joined first next w others ws p q) (λ a ws b h. (ws, b, h, (refl, refl)))
      (reads_behind m (between >> R) f sep text (next ∷ others) (all_next more (next ∷ others) each.1)))
