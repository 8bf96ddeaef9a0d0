-- Transducers of relation terms, form by form, from those of their parts and what the calls tell.
use Rattle.std.proofs.Common.{◌≡◌, ℕ, ◌+◌, ◌<◌, ◌↔◌, ◌⊎◌, List, [], length, map, sym, ◌∙◌, subst, inl, inr, arith}
use Rattle.std.proofs.lemmas.List.{length-map}
use Rattle.rela_labels.specs.Partition.{block_count}
use Rattle.rela_nfa.specs.Automaton.{Automaton, states}
use Rattle.rela_nfa.specs.Runs.{Reach, Accepts}
use Rattle.rela_pairs.specs.declared.pair.Pair.{Pair}
use Rattle.rela_rir.specs.BuiltTerms.{ArePlacedProducts, ArePlacedRelations, BuiltTerms}
use Rattle.rela_rir.specs.Meaning.{In, InR}
use Rattle.rela_rir.specs.Places.{Scene}
use Rattle.rela_rir.specs.Tables.{OnPairs, ReachByMiddle}
use Rattle.rela_rir.specs.Words.{PairConcatenation, PairStar, Composition}
use Rattle.rela_rir.specs.declared.term.PathTerm.{PathTerm}
use Rattle.rela_rir.specs.declared.term.RelTerm.{RelTerm}
use Rattle.rela_rir.specs.declared.term.RelTerm.TheVariants as R
use Rattle.rela_build.proofs.TermMeanings.{in_identity_r, in_product_r, in_union_r, in_concat_r, in_star_r, in_compose_r}
use Rattle.rela_trans.specs.Composition.{Covers, IsComposition}
use Rattle.rela_trans.specs.Machine.{Machine, IsMachine, machine_states}
use Rattle.rela_trans.specs.Relations.{PairJoins, PairRepeats}
use Rattle.rela_trans.specs.Runs.{ReachR, Relates}
use Rattle.rela_build.specs.Lettering.{Lettering}
use Rattle.rela_build.specs.Made.{LeadsR, IsMade, IsMadeR}
use Rattle.rela_build.specs.Numbered.{two_of}
use Rattle.rela_build.specs.PathSets.{Paths, scene_of}
use Rattle.rela_build.specs.Reading.{read_by}
use Rattle.rela_build.specs.TermMachines.{term_machines}
use Rattle.rela_build.proofs.LetterWords.{state_reached}
use Rattle.rela_build.proofs.PairStates.{numbered}
use Rattle.rela_build.proofs.PlacedTerms.{placed, placed_r, by_form_r}
use Rattle.rela_build.proofs.ReadPairs.{same_as, pairs_joined, pairs_repeated}
use Rattle.rela_build.proofs.TransducerRuns.{state_of_reach, letters_reached}

-- what is well formed is as it was
pub well : (Is : Machine → Type 0) (u w : Machine) → w ≡ u → IsMachine w → (IsMachine u → Is u) → Is w
well Is u w same ok is = subst Is (sym same) (is (subst IsMachine same ok))

module _ (E : Type 0) (S : Type 0) (sets : S → Paths) (built : BuiltTerms (term_machines E S sets)) (l : Lettering) (at : S) where
  abbrev paths : Paths
  paths = sets at

  abbrev m : Scene
  m = scene_of l paths

  abbrev f : ℕ → ℕ
  f = read_by l.blocks

  abbrev L : Machine → ℕ → List ℕ → List ℕ → Type 0
  L a = LeadsR l.blocks a

  abbrev Is : PathTerm → Automaton → Type 0
  Is t a = IsMade E l paths t a

  abbrev IsR : RelTerm → Machine → Type 0
  IsR t a = IsMadeR E l paths t a

  -- what is built of the automaton of a path term, and of the transducer of a relation term
  abbrev Products : PathTerm → Automaton → Machine → Type 0
  Products x a u = ArePlacedProducts (term_machines E S sets) (l, at) x (states a) (l.blocks, a) (l.blocks, u)

  abbrev Relations : RelTerm → Machine → Machine → Type 0
  Relations r a u = ArePlacedRelations (term_machines E S sets) (l, at) r (machine_states a) (l.blocks, a) (l.blocks, u)

  of : (x : PathTerm) (a : Automaton) (u : Machine) → Is x a → Products x a u
  of x a u one = built.products (l, at) x (states a) (l.blocks, a) (l.blocks, u) (placed E l paths x a one)

  of_r : (r : RelTerm) (a u : Machine) → IsR r a → Relations r a u
  of_r r a u one = built.relations (l, at) r (machine_states a) (l.blocks, a) (l.blocks, u) (placed_r E l paths r a one)

  below : (a : Machine) → IsMachine a → (q : ℕ) (z : List ℕ × List ℕ) → L a q z.0 z.1 → q < machine_states a
  below a ok q z h = state_of_reach f a ok q z.0 z.1 h

  -- ---- on the words of automata

  pub identity : (x : PathTerm) (a : Automaton) (u w : Machine) → Is x a → w ≡ u → IsMachine w → u.letters ≡ a.letters → machine_states u ≡ states a
      → ((read : ℕ → ℕ) (q : ℕ) (v o : List ℕ) → ReachR read u q v o ↔ (Reach a q (map read v) × (o ≡ v)))
      → ((read : ℕ → ℕ) (v o : List ℕ) → Relates read u v o ↔ (Accepts a (map read v) × (o ≡ v))) → IsR (R.Identity x) w
  unfolding IsMade
  identity x a u w one same ok letters count reached relation =
      well (IsR (R.Identity x)) u w same ok (λ ok.
      by_form_r E l paths (R.Identity x) (λ v o. (v ≡ o) × In m.setting x v) u (states a) (in_identity_r m.setting x) ok (letters ∙ one.letters) count
      (λ v o. (
        λ h. let both = (relation f v o).0 h in (sym both.1, (one.language v).0 both.0),
        λ both. (relation f v o).1 ((one.language v).1 both.1, sym both.0),
      ))
      ((of x a u one).identity (λ q v o. (
        λ h. let both = (reached f q v o).0 h in (sym both.1, both.0),
        λ both. (reached f q v o).1 (both.1, sym both.0),
      ))))

  pub product : (x y : PathTerm) (a b : Automaton) (u w : Machine) → Is x a → Is y b → w ≡ u → IsMachine w → u.letters ≡ a.letters
      → machine_states u ≡ states a + states b
      → ((read : ℕ → ℕ) (q : ℕ) (v o : List ℕ) → q < states a → ReachR read u q v o ↔ (Reach a q (map read v) × (o ≡ [])))
      → ((read : ℕ → ℕ) (q : ℕ) (v o : List ℕ) → ReachR read u (states a + q) v o ↔ (Accepts a (map read v) × Reach b q (map read o)))
      → ((read : ℕ → ℕ) (v o : List ℕ) → Relates read u v o ↔ (Accepts a (map read v) × Accepts b (map read o))) → IsR (R.Product x y) w
  unfolding IsMade
  product x y a b u w one two same ok letters count first second relation =
      well (IsR (R.Product x y)) u w same ok (λ ok.
      by_form_r E l paths (R.Product x y) (λ v o. In m.setting x v × In m.setting y o) u (states a + states b) (in_product_r m.setting x y) ok (letters ∙ one.letters) count
      (λ v o. (
        λ h. let both = (relation f v o).0 h in ((one.language v).0 both.0, (two.language o).0 both.1),
        λ both. (relation f v o).1 ((one.language v).1 both.0, (two.language o).1 both.1),
      ))
      ((of x a u one).product y (states b) (l.blocks, b) (placed E l paths y b two) (record {
        count = λ q z h. state_reached a one.automaton q (map f z.0) h.0;
        first = λ q z. first f q z.0 z.1;
        second = λ q z. (
          λ h. let both = (second f q z.0 z.1).0 h in ((one.language z.0).0 both.0, both.1),
          λ both. (second f q z.0 z.1).1 ((one.language z.0).1 both.0, both.1),
        );
      })))

  -- ---- states side by side

  pub union : (x y : RelTerm) (a b u w : Machine) → IsR x a → IsR y b → w ≡ u → IsMachine w → u.letters ≡ a.letters
      → machine_states u ≡ 1 + machine_states a + machine_states b → ((read : ℕ → ℕ) (v o : List ℕ) → ReachR read u 0 v o ↔ ((v ≡ []) × (o ≡ [])))
      → ((read : ℕ → ℕ) (q : ℕ) (v o : List ℕ) → q < machine_states a → ReachR read u (1 + q) v o ↔ ReachR read a q v o)
      → ((read : ℕ → ℕ) (q : ℕ) (v o : List ℕ) → ReachR read u (1 + machine_states a + q) v o ↔ ReachR read b q v o)
      → ((read : ℕ → ℕ) (v o : List ℕ) → Relates read u v o ↔ (Relates read a v o ⊎ Relates read b v o)) → IsR (R.Union x y) w
  unfolding IsMadeR
  union x y a b u w one two same ok letters count start first second relation =
      well (IsR (R.Union x y)) u w same ok (λ ok.
      by_form_r E l paths (R.Union x y) (λ v o. InR m.setting x v o ⊎ InR m.setting y v o) u (1 + (machine_states a + machine_states b)) (in_union_r m.setting x y) ok (letters ∙ one.letters) (omega (arith, count))
      (λ v o. (
        λ h. elim ((relation f v o).0 h) [ inl left ↦ inl ((one.relation v o).0 left) | inr right ↦ inr ((two.relation v o).0 right) ],
        λ either. (relation f v o).1 (elim either [ inl left ↦ inl ((one.relation v o).1 left) | inr right ↦ inr ((two.relation v o).1 right) ]),
      ))
      ((of_r x a u one).union y (machine_states b) (l.blocks, b) (placed_r E l paths y b two) (record {
        count = below a one.machine;
        begin = λ z. start f z.0 z.1;
        first = λ q z. first f q z.0 z.1;
        second = λ q z. second f q z.0 z.1;
      })))

  pub concat : (x y : RelTerm) (a b u w : Machine) → IsR x a → IsR y b → w ≡ u → IsMachine w → u.letters ≡ a.letters
      → machine_states u ≡ machine_states a + machine_states b
      → ((read : ℕ → ℕ) (q : ℕ) (v o : List ℕ) → q < machine_states a → ReachR read u q v o ↔ ReachR read a q v o)
      → ((read : ℕ → ℕ) (q : ℕ) (v o : List ℕ) → ReachR read u (machine_states a + q) v o ↔ PairJoins (Relates read a) (ReachR read b q) v o)
      → ((read : ℕ → ℕ) (v o : List ℕ) → Relates read u v o ↔ PairJoins (Relates read a) (Relates read b) v o) → IsR (R.Concat x y) w
  unfolding IsMadeR
  concat x y a b u w one two same ok letters count first second relation =
      well (IsR (R.Concat x y)) u w same ok (λ ok.
      by_form_r E l paths (R.Concat x y) (λ v o. PairConcatenation (InR m.setting x) (InR m.setting y) v o) u (machine_states a + machine_states b) (in_concat_r m.setting x y) ok (letters ∙ one.letters) count
      (same_as (Relates f u) (PairJoins (Relates f a) (Relates f b)) (PairConcatenation (InR m.setting x) (InR m.setting y)) (relation f)
      (pairs_joined (Relates f a) (Relates f b) (InR m.setting x) (InR m.setting y) one.relation two.relation))
      ((of_r x a u one).concat y (machine_states b) (l.blocks, b) (placed_r E l paths y b two) (record {
        count = below a one.machine;
        first = λ q z. first f q z.0 z.1;
        second = λ q z. same_as (L u (machine_states a + q)) (PairJoins (Relates f a) (L b q)) (PairConcatenation (InR m.setting x) (L b q)) (second f q)
            (pairs_joined (Relates f a) (L b q) (InR m.setting x) (L b q) one.relation (λ v o. ((λ h. h), λ h. h))) z.0 z.1;
      })))

  pub star : (x : RelTerm) (a u w : Machine) → IsR x a → w ≡ u → IsMachine w → u.letters ≡ a.letters → machine_states u ≡ 1 + machine_states a
      → ((read : ℕ → ℕ) (v o : List ℕ) → ReachR read u 0 v o ↔ ((v ≡ []) × (o ≡ [])))
      → ((read : ℕ → ℕ) (q : ℕ) (v o : List ℕ) → ReachR read u (1 + q) v o ↔ PairJoins (PairRepeats (Relates read a)) (ReachR read a q) v o)
      → ((read : ℕ → ℕ) (v o : List ℕ) → Relates read u v o ↔ PairRepeats (Relates read a) v o) → IsR (R.Star x) w
  unfolding IsMadeR
  star x a u w one same ok letters count start copies relation =
      let stars = pairs_repeated (Relates f a) (InR m.setting x) one.relation in
      well (IsR (R.Star x)) u w same ok (λ ok.
      by_form_r E l paths (R.Star x) (λ v o. PairStar (InR m.setting x) v o) u (1 + machine_states a) (in_star_r m.setting x) ok (letters ∙ one.letters) count
      (same_as (Relates f u) (PairRepeats (Relates f a)) (PairStar (InR m.setting x)) (relation f) stars)
      ((of_r x a u one).star (record {
        begin = λ z. start f z.0 z.1;
        copies = λ q z. same_as (L u (1 + q)) (PairJoins (PairRepeats (Relates f a)) (L a q)) (PairConcatenation (PairStar (InR m.setting x)) (L a q)) (copies f q)
            (pairs_joined (PairRepeats (Relates f a)) (L a q) (PairStar (InR m.setting x)) (L a q) stars (λ v o. ((λ h. h), λ h. h))) z.0 z.1;
      })))

  -- ---- pairs of states

  pub compose : (x y : RelTerm) (a b u w : Machine) → Covers (read_by l.blocks) (block_count l.blocks) → IsR x a → IsR y b → w ≡ u → IsMachine w
      → u.letters ≡ a.letters → (pairs : List Pair) × IsComposition a b pairs u
      → ((read : ℕ → ℕ) → Covers read a.letters → (v o : List ℕ) → Relates read u v o ↔ ((middle : List ℕ) × Relates read a v middle × Relates read b middle o)) → IsR (R.Compose x y) w
  unfolding IsMadeR
  compose x y a b u w covers one two same ok letters (pairs, composes) relation =
      let covers_a : Covers f a.letters = subst (Covers f) (sym one.letters) covers in
      well (IsR (R.Compose x y)) u w same ok (λ ok.
      by_form_r E l paths (R.Compose x y) (λ v o. Composition (InR m.setting x) (InR m.setting y) v o) u (length (map two_of pairs)) (in_compose_r m.setting x y) ok (letters ∙ one.letters)
      (sym (length-map pairs two_of ∙ composes.count))
      (λ v o. (
        λ related.
            let found = (relation f covers_a v o).0 related in record {
              middle = found.0;
              first = (one.relation v found.0).0 found.1;
              second = (two.relation found.0 o).0 found.2;
            },
        λ c. (relation f covers_a v o).1 (c.middle, (one.relation v c.middle).1 c.first, (two.relation c.middle o).1 c.second),
      ))
      ((of_r x a u one).compose y (machine_states b) (l.blocks, b) (placed_r E l paths y b two) (map two_of pairs)
      (numbered pairs (OnPairs (ReachByMiddle (L a) (L b))) (OnPairs (L u)) (record {
        distinct = composes.distinct;
        all = λ s z (middle, first, second).
            composes.all s (map f z.0, map f z.1, (map f middle, letters_reached f a s.left z.0 middle first, letters_reached f b s.right middle z.1 second));
        below = λ k z h. let less = below u ok k z h in omega (arith, less, composes.count);
        reached = λ k s at z. composes.reached f covers_a k s at z.0 z.1;
      }))))
