-- Automata of path terms, form by form, from those of their parts, if any, and what the calls tell.
use Rattle.std.proofs.Common.{◌≡◌, ℕ, ◌+◌, ◌<◌, ◌↔◌, ◌⊎◌, Bool, List, [], length, map, refl, sym, ◌∙◌, subst, inl, inr, arith}
use Rattle.std.proofs.lemmas.List.{length-map}
use Rattle.rela_labels.specs.Partition.{block_count}
use Rattle.rela_nfa.specs.Automaton.{Automaton, IsAutomaton, states}
use Rattle.rela_nfa.specs.Languages.{Joins, Repeats}
use Rattle.rela_nfa.specs.Meeting.{IsMeet}
use Rattle.rela_nfa.specs.Runs.{Reach, Accepts}
use Rattle.rela_pairs.specs.declared.pair.Pair.{Pair}
use Rattle.rela_rir.specs.Built.{OneState, ComplementStates}
use Rattle.rela_rir.specs.BuiltTerms.{ArePlacedSets, BuiltTerms}
use Rattle.rela_rir.specs.Meaning.{In, InR, IsPathWord}
use Rattle.rela_rir.specs.Places.{Scene}
use Rattle.rela_rir.specs.Tables.{ReachTogether, ReachFromSource, ToldByState}
use Rattle.rela_rir.specs.Words.{Concatenation, Star, ImageOf}
use Rattle.rela_rir.specs.declared.term.PathTerm.{PathTerm}
use Rattle.rela_rir.specs.declared.term.RelTerm.{RelTerm}
use Rattle.rela_rir.specs.declared.term.PathTerm.TheVariants as P
use Rattle.rela_build.proofs.TermMeanings.{in_none, in_empty, in_union, in_concat, in_star, in_meet, in_complement, in_image}
use Rattle.rela_trans.specs.Composition.{Covers}
use Rattle.rela_trans.specs.Images.{IsImage}
use Rattle.rela_trans.specs.Machine.{Machine, machine_states}
use Rattle.rela_trans.specs.Runs.{Relates}
use Rattle.rela_build.specs.Complement.{IsOver, IsComplement, ReachApart, TellsAll}
use Rattle.rela_build.specs.Lettering.{Lettering}
use Rattle.rela_build.specs.Made.{Leads, LeadsR, IsMade, IsMadeR}
use Rattle.rela_build.specs.Numbered.{two_of}
use Rattle.rela_build.specs.PathSets.{Paths, scene_of}
use Rattle.rela_build.specs.Reading.{read_by, HoldsJust}
use Rattle.rela_build.specs.TermMachines.{term_machines}
use Rattle.rela_build.proofs.LetterWords.{state_reached}
use Rattle.rela_build.proofs.PairStates.{numbered}
use Rattle.rela_build.proofs.PlacedTerms.{placed, placed_r, by_form}
use Rattle.rela_build.proofs.ReadWords.{read_as, no_letters, joined, repeated, over}
use Rattle.rela_build.proofs.TransducerRuns.{letters_reached}

-- what is well formed is as it was
pub well : (Is : Automaton → Type 0) (u w : Automaton) → w ≡ u → IsAutomaton w → (IsAutomaton u → Is u) → Is w
well Is u w same ok is = subst Is (sym same) (is (subst IsAutomaton same ok))

module _ (E : Type 0) (S : Type 0) (sets : S → Paths) (built : BuiltTerms (term_machines E S sets)) (l : Lettering) (at : S) where
  abbrev paths : Paths
  paths = sets at

  abbrev m : Scene
  m = scene_of l paths

  abbrev f : ℕ → ℕ
  f = read_by l.blocks

  abbrev L : Automaton → ℕ → List ℕ → Type 0
  L a = Leads l.blocks a

  abbrev Is : PathTerm → Automaton → Type 0
  Is t a = IsMade E l paths t a

  -- what is built of the automaton of a term
  abbrev Sets : PathTerm → Automaton → Automaton → Type 0
  Sets x a u = ArePlacedSets (term_machines E S sets) (l, at) x (states a) (l.blocks, a) (l.blocks, u)

  of : (x : PathTerm) (a u : Automaton) → Is x a → Sets x a u
  of x a u one = built.sets (l, at) x (states a) (l.blocks, a) (l.blocks, u) (placed E l paths x a one)

  below : (a : Automaton) → IsAutomaton a → (q : ℕ) (w : List ℕ) → L a q w → q < states a
  below a ok q w h = state_reached a ok q (map f w) h

  begun : (a : Automaton) → ((v : List ℕ) → Reach a 0 v ↔ (v ≡ [])) → (w : List ℕ) → L a 0 w ↔ (w ≡ [])
  begun a start = read_as f (Reach a 0) (λ w. w ≡ []) (λ w. w ≡ []) start (no_letters f)

  -- ---- one state

  one_state : (a : Automaton) → IsAutomaton a → states a ≡ 1 → ((v : List ℕ) → Reach a 0 v ↔ (v ≡ [])) → OneState (L a)
  one_state a ok count start = record {
    begin = begun a start;
    count = λ q w h. let less = below a ok q w h in omega (arith, less, count);
  }

  pub none : (u w : Automaton) (n : ℕ) → w ≡ u → IsAutomaton w → n ≡ block_count l.blocks → u.letters ≡ n → states u ≡ 1
      → ((v : List ℕ) → Reach u 0 v ↔ (v ≡ [])) → ((v : List ℕ) → ¬ Accepts u v) → Is P.None w
  none u w n same ok size letters count start language =
      well (Is P.None) u w same ok (λ ok.
      by_form E l paths P.None (λ w. ⊥) u 1 (in_none m.setting) ok (letters ∙ size) count (λ w. (language (map f w), λ h. absurd h))
      ((built.leaves (l, at) (l.blocks, u)).none (one_state u ok count start)))

  pub empty : (u w : Automaton) (n : ℕ) → w ≡ u → IsAutomaton w → n ≡ block_count l.blocks → u.letters ≡ n → states u ≡ 1
      → ((v : List ℕ) → Reach u 0 v ↔ (v ≡ [])) → ((v : List ℕ) → Accepts u v ↔ (v ≡ [])) → Is P.Empty w
  empty u w n same ok size letters count start language =
      well (Is P.Empty) u w same ok (λ ok.
      by_form E l paths P.Empty (λ w. w ≡ []) u 1 (in_empty m.setting) ok (letters ∙ size) count
      (read_as f (Accepts u) (λ w. w ≡ []) (λ w. w ≡ []) language (no_letters f))
      ((built.leaves (l, at) (l.blocks, u)).empty (one_state u ok count start)))

  -- ---- states side by side

  pub union : (x y : PathTerm) (a b u w : Automaton) → Is x a → Is y b → w ≡ u → IsAutomaton w → u.letters ≡ a.letters
      → states u ≡ 1 + states a + states b → ((v : List ℕ) → Reach u 0 v ↔ (v ≡ []))
      → ((q : ℕ) (v : List ℕ) → q < states a → Reach u (1 + q) v ↔ Reach a q v) → ((q : ℕ) (v : List ℕ) → Reach u (1 + states a + q) v ↔ Reach b q v)
      → ((v : List ℕ) → Accepts u v ↔ (Accepts a v ⊎ Accepts b v)) → Is (P.Union x y) w
  unfolding IsMade
  union x y a b u w one two same ok letters count start first second language =
      well (Is (P.Union x y)) u w same ok (λ ok.
      by_form E l paths (P.Union x y) (λ w. In m.setting x w ⊎ In m.setting y w) u (1 + (states a + states b)) (in_union m.setting x y) ok (letters ∙ one.letters) (omega (arith, count))
      (λ w. (
        λ h. elim ((language (map f w)).0 h) [ inl left ↦ inl ((one.language w).0 left) | inr right ↦ inr ((two.language w).0 right) ],
        λ either. (language (map f w)).1 (elim either [ inl left ↦ inl ((one.language w).1 left) | inr right ↦ inr ((two.language w).1 right) ]),
      ))
      ((of x a u one).union y (states b) (l.blocks, b) (placed E l paths y b two) (record {
        count = below a one.automaton;
        begin = begun u start;
        first = λ q w. first q (map f w);
        second = λ q w. second q (map f w);
      })))

  pub concat : (x y : PathTerm) (a b u w : Automaton) → Is x a → Is y b → w ≡ u → IsAutomaton w → u.letters ≡ a.letters
      → states u ≡ states a + states b → ((q : ℕ) (v : List ℕ) → q < states a → Reach u q v ↔ Reach a q v)
      → ((q : ℕ) (v : List ℕ) → Reach u (states a + q) v ↔ Joins (Accepts a) (Reach b q) v)
      → ((v : List ℕ) → Accepts u v ↔ Joins (Accepts a) (Accepts b) v) → Is (P.Concat x y) w
  unfolding IsMade
  concat x y a b u w one two same ok letters count first second language =
      well (Is (P.Concat x y)) u w same ok (λ ok.
      by_form E l paths (P.Concat x y) (λ w. Concatenation (In m.setting x) (In m.setting y) w) u (states a + states b) (in_concat m.setting x y) ok (letters ∙ one.letters) count
      (read_as f (Accepts u) (Joins (Accepts a) (Accepts b)) (Concatenation (In m.setting x) (In m.setting y)) language
      (joined f (Accepts a) (Accepts b) (In m.setting x) (In m.setting y) one.language two.language))
      ((of x a u one).concat y (states b) (l.blocks, b) (placed E l paths y b two) (record {
        count = below a one.automaton;
        first = λ q w. first q (map f w);
        second = λ q. read_as f (Reach u (states a + q)) (Joins (Accepts a) (Reach b q)) (Concatenation (In m.setting x) (L b q)) (second q)
            (joined f (Accepts a) (Reach b q) (In m.setting x) (L b q) one.language (λ v. ((λ h. h), λ h. h)));
      })))

  pub star : (x : PathTerm) (a u w : Automaton) → Is x a → w ≡ u → IsAutomaton w → u.letters ≡ a.letters
      → states u ≡ 1 + states a → ((v : List ℕ) → Reach u 0 v ↔ (v ≡ []))
      → ((q : ℕ) (v : List ℕ) → Reach u (1 + q) v ↔ Joins (Repeats (Accepts a)) (Reach a q) v)
      → ((v : List ℕ) → Accepts u v ↔ Repeats (Accepts a) v) → Is (P.Star x) w
  unfolding IsMade
  star x a u w one same ok letters count start copies language =
      let stars = repeated f (Accepts a) (In m.setting x) one.language in
      well (Is (P.Star x)) u w same ok (λ ok.
      by_form E l paths (P.Star x) (λ w. Star (In m.setting x) w) u (1 + states a) (in_star m.setting x) ok (letters ∙ one.letters) count
      (read_as f (Accepts u) (Repeats (Accepts a)) (Star (In m.setting x)) language stars)
      ((of x a u one).star (record {
        begin = begun u start;
        copies = λ q. read_as f (Reach u (1 + q)) (Joins (Repeats (Accepts a)) (Reach a q)) (Concatenation (Star (In m.setting x)) (L a q)) (copies q)
            (joined f (Repeats (Accepts a)) (Reach a q) (Star (In m.setting x)) (L a q) stars (λ v. ((λ h. h), λ h. h)));
      })))

  -- ---- pairs of states

  pub meet : (x y : PathTerm) (a b u w : Automaton) → Is x a → Is y b → w ≡ u → IsAutomaton w → u.letters ≡ a.letters
      → (pairs : List Pair) × IsMeet a b pairs u → ((v : List ℕ) → Accepts u v ↔ (Accepts a v × Accepts b v)) → Is (P.Meet x y) w
  unfolding IsMade
  meet x y a b u w one two same ok letters (pairs, meets) language =
      well (Is (P.Meet x y)) u w same ok (λ ok.
      by_form E l paths (P.Meet x y) (λ w. In m.setting x w × In m.setting y w) u (length (map two_of pairs)) (in_meet m.setting x y) ok (letters ∙ one.letters)
      (sym (length-map pairs two_of ∙ meets.count))
      (λ w. (
        λ h. let both = (language (map f w)).0 h in ((one.language w).0 both.0, (two.language w).0 both.1),
        λ both. (language (map f w)).1 ((one.language w).1 both.0, (two.language w).1 both.1),
      ))
      ((of x a u one).meet y (states b) (l.blocks, b) (placed E l paths y b two) (map two_of pairs)
      (numbered pairs (ReachTogether (L a) (L b)) (L u) (record {
        distinct = meets.distinct;
        all = λ z w both. meets.all z (map f w, both);
        below = λ k w h. let less = below u ok k w h in omega (arith, less, meets.count);
        reached = λ k z at w. meets.reached k z at (map f w);
      }))))

  pub image : (x : PathTerm) (r : RelTerm) (a : Automaton) (s : Machine) (u w : Automaton) → Covers (read_by l.blocks) (block_count l.blocks)
      → Is x a → IsMadeR E l paths r s → w ≡ u → IsAutomaton w → u.letters ≡ a.letters → (pairs : List Pair) × IsImage a s pairs u
      → ((read : ℕ → ℕ) → Covers read a.letters → (v : List ℕ) → Accepts u (map read v) ↔ ((source : List ℕ) × Accepts a (map read source) × Relates read s source v)) → Is (P.Image x r) w
  unfolding IsMade IsMadeR
  image x r a s u w covers one two same ok letters (pairs, images) language =
      let covers_a : Covers f a.letters = subst (Covers f) (sym one.letters) covers in
      well (Is (P.Image x r)) u w same ok (λ ok.
      by_form E l paths (P.Image x r) (λ w. ImageOf (In m.setting x) (InR m.setting r) w) u (length (map two_of pairs)) (in_image m.setting x r) ok (letters ∙ one.letters)
      (sym (length-map pairs two_of ∙ images.count))
      (λ v. (
        λ accepted.
            let found = (language f covers_a v).0 accepted in record {
              source = found.0;
              in_set = (one.language found.0).0 found.1;
              related = (two.relation found.0 v).0 found.2;
            },
        λ i. (language f covers_a v).1 (i.source, (one.language i.source).1 i.in_set, (two.relation i.source v).1 i.related),
      ))
      ((of x a u one).image r (machine_states s) (l.blocks, s) (placed_r E l paths r s two) (map two_of pairs)
      (numbered pairs (ReachFromSource (L a) (LeadsR l.blocks s)) (L u) (record {
        distinct = images.distinct;
        all = λ z v (source, first, second). images.all z (map f source, map f v, first, letters_reached f s z.right source v second);
        below = λ k v h. let less = below u ok k v h in omega (arith, less, images.count);
        reached = λ k z at v. images.reached f covers_a k z at v;
      }))))

  -- ---- complements

  told : (a : Automaton) (v w : List ℕ) → ReachApart a (map f v) (map f w) → ToldByState (L a) v w
  told a v w (q, inl first) = (q, inl first)
  told a v w (q, inr second) = (q, inr (second.1, second.0))

  module _ (a r : Automaton) (set : List Bool) (of_path : HoldsJust l.blocks (λ s. s < l.path_symbols) set) (is : IsComplement a set r) where
    is_over : (w : List ℕ) → IsPathWord l.path_symbols w → IsOver set (map f w)
    is_over w path = (over f set l.path_symbols of_path.holds w).1 path

    of_over : (w : List ℕ) → IsOver set (map f w) → IsPathWord l.path_symbols w
    of_over w each = (over f set l.path_symbols of_path.holds w).0 each

    complement_states : ComplementStates l.path_symbols (L a) (L r)
    complement_states = record {
      after = λ w. is.after (map f w);
      reached = λ q w. (
        λ h. let both = (is.reached q (map f w)).0 h in (of_over w both.0, both.1),
        λ both. (is.reached q (map f w)).1 (is_over w both.0, both.1),
      );
      alike = λ v w of_v of_w same. is.alike (map f v) (map f w) (is_over v of_v) (is_over w of_w) same;
      told = λ v w of_v of_w differ. told a v w (is.told (map f v) (map f w) (is_over v of_v) (is_over w of_w) differ);
    }

    arrives : (w : List ℕ) (q : ℕ) → IsPathWord l.path_symbols w → is.after (map f w) ≡ q → L r q w
    arrives w q path at = (is.reached q (map f w)).1 (is_over w path, at)

  pub complement : (x : PathTerm) (a u : Automaton) → Is x a → (set : List Bool) → HoldsJust l.blocks (λ s. s < l.path_symbols) set → IsComplement a set u → (E → TellsAll a u) → Is (P.Complement x) u
  unfolding IsMade complement_states
  complement x a u one set of_path complements all =
      by_form E l paths (P.Complement x) (λ w. IsPathWord l.path_symbols w × (¬ In m.setting x w)) u (states u) (in_complement m.setting x) complements.automaton
      (complements.letters ∙ one.letters) refl
      (λ w. (
        λ h.
            let both = (complements.language (map f w)).0 h in
            (of_over a u set of_path complements w both.0, λ in_x. both.1 ((one.language w).1 in_x)),
        λ both. (complements.language (map f w)).1 (is_over a u set of_path complements w both.0, λ accepted. both.1 ((one.language w).0 accepted)),
      ))
      ((of x a u one).complement (states u) (complement_states a u set of_path complements) (λ e. record {
        below = λ v path. below u complements.automaton (complements.after (map f v)) v (arrives a u set of_path complements v (complements.after (map f v)) path refl);
        alike = λ v w of_v of_w same.
            all e (complements.after (map f w)) (map f v) (map f w)
            (arrives a u set of_path complements v (complements.after (map f w)) of_v same)
            (arrives a u set of_path complements w (complements.after (map f w)) of_w refl);
      }))
