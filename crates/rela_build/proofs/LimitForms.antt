-- A construction that passes the limit is one of a term with more places than the limit.
use Rattle.std.proofs.Common.{◌≡◌, ℕ, ◌+◌, List, length, map, sym, subst}
use Rattle.rela_labels.specs.Partition.{block_count}
use Rattle.rela_nfa.specs.Automaton.{Automaton}
use Rattle.rela_nfa.specs.Meeting.{AreReachedTogether}
use Rattle.rela_nfa.specs.Runs.{Reach}
use Rattle.rela_pairs.specs.Reachable.{MoreThan}
use Rattle.rela_pairs.specs.declared.pair.Pair.{Pair}
use Rattle.rela_rir.specs.Limit.{IsCheckWord, ReachedInside, ReachedInsideR}
use Rattle.rela_rir.specs.Places.{Scene}
use Rattle.rela_rir.specs.ReachedTerms.{ReachedTerms}
use Rattle.rela_rir.specs.Tables.{IsStateReached, IsStateReachedR, ReachTogether, ReachFromSource, ReachByMiddle}
use Rattle.rela_rir.specs.declared.term.PathTerm.{PathTerm}
use Rattle.rela_rir.specs.declared.term.RelTerm.{RelTerm}
use Rattle.rela_rir.specs.declared.term.PathTerm.TheVariants as P
use Rattle.rela_rir.specs.declared.term.RelTerm.TheVariants as R
use Rattle.rela_trans.specs.Composition.{Covers, AreReachedThrough}
use Rattle.rela_trans.specs.Images.{AreReachedFrom}
use Rattle.rela_trans.specs.Machine.{Machine}
use Rattle.rela_trans.specs.Runs.{ReachR}
use Rattle.rela_build.specs.Lettering.{Lettering}
use Rattle.rela_build.specs.Made.{Leads, LeadsR, IsMade, IsMadeR}
use Rattle.rela_build.specs.Numbered.{two_of}
use Rattle.rela_build.specs.PathSets.{Paths, scene_of}
use Rattle.rela_build.specs.Reading.{read_by}
use Rattle.rela_build.specs.TermMachines.{term_machines}
use Rattle.rela_build.proofs.Insides.{at_meet, at_image, at_compose_r}
use Rattle.rela_build.proofs.LetterWords.{Below, reached_letters, reached_letters_r, symbols_of, word_for}
use Rattle.rela_build.proofs.PairStates.{many_states}
use Rattle.rela_build.proofs.PlacedTerms.{plainly, plainly_r}
use Rattle.rela_build.proofs.TransducerRuns.{symbols_reached}

module _ (E : Type 0) (S : Type 0) (sets : S → Paths) (reached : (at : Lettering × S) → ReachedTerms (term_machines E S sets) at) (l : Lettering) (at : S)
    (covers : Covers (read_by l.blocks) (block_count l.blocks)) (symbols : length l.blocks ≡ l.path_symbols + l.markers) where
  abbrev paths : Paths
  paths = sets at

  abbrev m : Scene
  m = scene_of l paths

  abbrev f : ℕ → ℕ
  f = read_by l.blocks

  good : (v w : List ℕ) → map f v ≡ w → Below (block_count l.blocks) w → IsCheckWord m v
  good v w e below = subst (λ (n : ℕ). Below n v) symbols (symbols_of l.blocks v w e below)

  module _ (x y : PathTerm) (a b : Automaton) (one : IsMade E l paths x a) (two : IsMade E l paths y b) where
    meet_reached : (z : Pair) → AreReachedTogether a b z → IsStateReached m (ReachTogether (Leads l.blocks a) (Leads l.blocks b)) (two_of z)
    unfolding IsMade
    meet_reached z (w, (left, right)) =
        let below = subst (λ (n : ℕ). Below n w) one.letters (reached_letters a one.automaton z.left w left) in
        let v = word_for l.blocks covers w below in
        (v.0, good v.0 w v.1 below, (subst (Reach a z.left) (sym v.1) left, subst (Reach b z.right) (sym v.1) right))

    pub meet : (limit : ℕ) → MoreThan limit (AreReachedTogether a b) → ReachedInside m (limit + 1) (P.Meet x y)
    meet limit more =
        at_meet m (limit + 1) x y
        ((reached (l, at)).meet x y (l.blocks, a) (l.blocks, b) (plainly E l paths x a one) (plainly E l paths y b two) (limit + 1)
        (many_states limit (AreReachedTogether a b) (IsStateReached m (ReachTogether (Leads l.blocks a) (Leads l.blocks b))) meet_reached more))

  module _ (x : PathTerm) (r : RelTerm) (a : Automaton) (s : Machine) (one : IsMade E l paths x a) (two : IsMadeR E l paths r s) where
    image_reached : (z : Pair) → AreReachedFrom a s z → IsStateReached m (ReachFromSource (Leads l.blocks a) (LeadsR l.blocks s)) (two_of z)
    unfolding IsMadeR
    image_reached z (u, w, left, right) =
        let below = subst (λ (n : ℕ). Below n w) two.letters (reached_letters_r s two.machine z.right u w right).1 in
        let v = word_for l.blocks covers w below in
        let lifted = symbols_reached f s two.machine (subst (Covers f) (sym two.letters) covers) z.right u v.0 (subst (λ (o : List ℕ). ReachR (λ k. k) s z.right u o) (sym v.1) right) in
        (v.0, good v.0 w v.1 below, (lifted.0, subst (Reach a z.left) (sym lifted.1) left, lifted.2))

    pub image : (limit : ℕ) → MoreThan limit (AreReachedFrom a s) → ReachedInside m (limit + 1) (P.Image x r)
    image limit more =
        at_image m (limit + 1) x r
        ((reached (l, at)).image x r (l.blocks, a) (l.blocks, s) (plainly E l paths x a one) (plainly_r E l paths r s two) (limit + 1)
        (many_states limit (AreReachedFrom a s) (IsStateReached m (ReachFromSource (Leads l.blocks a) (LeadsR l.blocks s))) image_reached more))

  module _ (x y : RelTerm) (a b : Machine) (one : IsMadeR E l paths x a) (two : IsMadeR E l paths y b) where
    compose_reached : (z : Pair) → AreReachedThrough a b z → IsStateReachedR m (ReachByMiddle (LeadsR l.blocks a) (LeadsR l.blocks b)) (two_of z)
    unfolding IsMadeR
    compose_reached z (u, w, (middle, first, second)) =
        let u_below = subst (λ (n : ℕ). Below n u) one.letters (reached_letters_r a one.machine z.left u middle first).0 in
        let w_below = subst (λ (n : ℕ). Below n w) two.letters (reached_letters_r b two.machine z.right middle w second).1 in
        let v = word_for l.blocks covers w w_below in
        let after = symbols_reached f b two.machine (subst (Covers f) (sym two.letters) covers) z.right middle v.0
        (subst (λ (o : List ℕ). ReachR (λ k. k) b z.right middle o) (sym v.1) second) in
        let before = symbols_reached f a one.machine (subst (Covers f) (sym one.letters) covers) z.left u after.0
        (subst (λ (o : List ℕ). ReachR (λ k. k) a z.left u o) (sym after.1) first) in
        (before.0, v.0, good before.0 u before.1 u_below, good v.0 w v.1 w_below, (after.0, before.2, after.2))

    pub compose : (limit : ℕ) → MoreThan limit (AreReachedThrough a b) → ReachedInsideR m (limit + 1) (R.Compose x y)
    compose limit more =
        at_compose_r m (limit + 1) x y
        ((reached (l, at)).compose x y (l.blocks, a) (l.blocks, b) (plainly_r E l paths x a one) (plainly_r E l paths y b two) (limit + 1)
        (many_states limit (AreReachedThrough a b) (IsStateReachedR m (ReachByMiddle (LeadsR l.blocks a) (LeadsR l.blocks b))) compose_reached more))
