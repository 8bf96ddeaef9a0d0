-- What plain automata tell of places, where an image or the comparison of two passes the limit.
use Rattle.std.proofs.Common.{◌≡◌, ◌∙◌, ◌+◌, ℕ, List, Some, None, length, map, sym, subst, arith}
use Rattle.rela_build.specs.Made.{Leads, LeadsR, IsMadeR}
use Rattle.rela_build.specs.Numbered.{AreNumbered, two_of}
use Rattle.rela_build.specs.PathSets.{no_paths}
use Rattle.rela_build.specs.Reading.{read_by}
use Rattle.rela_labels.specs.Partition.{block_count, IsPartition}
use Rattle.rela_nfa.specs.Automaton.{Automaton, IsAutomaton}
use Rattle.rela_nfa.specs.Runs.{Reach}
use Rattle.rela_pairs.specs.Reachable.{MoreThan}
use Rattle.rela_pairs.specs.declared.pair.Pair.{Pair}
use Rattle.rela_rir.specs.BuiltTerms.{Stand, StandR}
use Rattle.rela_rir.specs.Fixed.{IsFixedR}
use Rattle.rela_rir.specs.Limit.{Reached}
use Rattle.rela_rir.specs.Places.{Scene}
use Rattle.rela_rir.specs.ReachedTerms.{CarriedTables}
use Rattle.rela_rir.specs.Tables.{IsPlaced, IsPlacedR, IsPlacedWhere, IsPlacedWhereR, IsStateReached, ReachFromSource}
use Rattle.rela_rir.specs.declared.term.PathTerm.{PathTerm}
use Rattle.rela_rir.specs.declared.term.RelTerm.{RelTerm}
use Rattle.rela_rir.specs.declared.term.PathTerm.TheVariants as P
use Rattle.rela_trans.specs.Composition.{Covers}
use Rattle.rela_trans.specs.Images.{AreReachedFrom}
use Rattle.rela_trans.specs.Machine.{Machine, IsMachine}
use Rattle.rela_trans.specs.Runs.{ReachR}
use Rattle.rela_translate.specs.Checked.{Checked}
use Rattle.rela_blocks.specs.FlowName.{FlowName, flow_paths}
use Rattle.rela_blocks.specs.RowBlocks.{symbols_of}
use Rattle.rela_blocks.specs.Scenes.{scene, lettering_of}
use Rattle.rela_engine.specs.FlowMachines.{SceneName, check_name, flow_machines, flow_scenes}
use Rattle.rela_engine.specs.Seen.{IsImageBy, LeadAlike}
use Rattle.rela_engine.proofs.ComparedPlaces.{check_word}
use Rattle.rela_engine.proofs.LetterLaws.{Below, covered, state_of_reach, word_for}
use Rattle.rela_engine.proofs.LiftedWords.{letters_reached, symbols_reached}
use Rattle.rela_engine.proofs.OpenRows.{agree}
use Rattle.rela_engine.proofs.Rereading.{reach_below}

-- the states of an image stand for its places where they are numbered pairs of states of its parts
abbrev pub ArePlaced : Type 0
ArePlaced = (at : SceneName) (x : PathTerm) (r : RelTerm) (n k : ℕ) (a : List ℕ × Automaton) (t : List ℕ × Machine) (u : List ℕ × Automaton) (pairs : List Pair)
    → Stand flow_machines at x n a → StandR flow_machines at r k t
    → AreNumbered pairs (ReachFromSource (Leads a.0 a.1) (LeadsR t.0 t.1)) (Leads u.0 u.1) → Stand flow_machines at (P.Image x r) (length pairs) u

-- an image that passes the limit has more places
abbrev pub HaveMore : Type 0
HaveMore = (at : SceneName) (x : PathTerm) (r : RelTerm) (a : List ℕ × Automaton) (t : List ℕ × Machine) (words : Automaton) (relation : Machine) (limit : ℕ)
    → IsPlaced (flow_scenes.of at) x (Leads a.0 a.1) → IsPlacedR (flow_scenes.of at) r (LeadsR t.0 t.1)
    → ((z : Pair) → AreReachedFrom words relation z → IsStateReached (flow_scenes.of at) (ReachFromSource (Leads a.0 a.1) (LeadsR t.0 t.1)) (two_of z))
    → MoreThan limit (AreReachedFrom words relation) → Reached (flow_scenes.of at) (P.Image x r) (limit + 1)

-- no table has to be exact
perhaps : (m : Scene) (x : PathTerm) (reach : ℕ → List ℕ → Type 0) → IsPlaced m x reach → (n : ℕ) → IsPlacedWhere ⊥ n m x reach
perhaps m x reach placed n = record { table = placed.table; is_table = placed.is_table; exact = λ never. absurd never }

perhaps_r : (m : Scene) (r : RelTerm) (reach : ℕ → List ℕ → List ℕ → Type 0) → IsPlacedR m r reach → (n : ℕ) → IsPlacedWhereR ⊥ n m r reach
perhaps_r m r reach placed n = record { table = placed.table; is_table = placed.is_table; exact = λ never. absurd never }

pub plain : (m : Scene) (x : PathTerm) (reach : ℕ → List ℕ → Type 0) (n : ℕ) → IsPlacedWhere ⊥ n m x reach → IsPlaced m x reach
plain m x reach n placed = record { table = placed.table; is_table = placed.is_table }

module _ (check : Checked) (n : ℕ) (blocks : List ℕ) (is : IsPartition blocks) (symbols : length blocks ≡ symbols_of check n) (flow : FlowName) where
  abbrev m : Scene
  m = scene check n (flow_paths flow)

  abbrev f : ℕ → ℕ
  f = read_by blocks

  -- ---- the machines of one side

  -- a transducer that is reached as a plain one is has states that stand for the places of its term
  pub relation_placed : CarriedTables flow_machines → (r : RelTerm) (coarse : List ℕ) (plain relation : Machine) → IsFixedR r → IsMadeR ⊥ (lettering_of check n coarse) no_paths r plain
      → LeadAlike coarse plain blocks relation → IsPlacedR m r (LeadsR blocks relation)
  unfolding IsMadeR
  relation_placed carried r coarse plain relation fixed made alike =
      let at = check_name check n (Some flow) in
      carried.relations_alike at r (coarse, plain) (blocks, relation) (λ q u v. ((alike q u v).1, (alike q u v).0))
      ((carried.relations (check_name check n None) at r (coarse, plain) (agree check n flow r fixed)).0 (record { table = made.table; is_table = made.placed }))

  module _ (x : PathTerm) (r : RelTerm) (a : Automaton) (t : Machine) (ok : IsMachine t) (letters : t.letters ≡ block_count blocks)
      (placed : IsPlaced m x (Leads blocks a)) (placed_r : IsPlacedR m r (LeadsR blocks t)) where
    -- what one source of letters leads to is led to by a source of symbols
    from_symbols : (z : Pair) → AreReachedFrom a t z → IsStateReached m (ReachFromSource (Leads blocks a) (LeadsR blocks t)) (two_of z)
    from_symbols z (source, v, left, right) =
        let are = reach_below (λ k. k) t ok t.letters (λ k letter. letter) z.right source v right in
        let below : Below (block_count blocks) v = subst (λ (k : ℕ). Below k v) letters are.1 in
        let u = word_for blocks is source (subst (λ (k : ℕ). Below k source) letters are.0) in
        let w = word_for blocks is v below in
        let lifted = symbols_reached (λ k. k) f t z.right u.0 w.0
        (subst (λ (o : List ℕ). ReachR (λ k. k) t z.right o (map f w.0)) (sym u.1)
        (subst (λ (o : List ℕ). ReachR (λ k. k) t z.right source o) (sym w.1) right)) in
        (w.0, check_word m blocks is symbols w.0 v w.1 below, (lifted.0, subst (Reach a z.left) (sym (lifted.1 ∙ u.1)) left, lifted.2))

    -- an image that passes the limit has more places
    pub image_passes : HaveMore → (limit : ℕ) → MoreThan limit (AreReachedFrom a t) → Reached m (P.Image x r) (limit + 1)
    image_passes more limit many = more (check_name check n (Some flow)) x r (blocks, a) (blocks, t) a t limit placed placed_r from_symbols many

    -- the states of an image stand for its places
    pub image_placed : ArePlaced → (image : Automaton) → IsAutomaton image → a.letters ≡ block_count blocks → IsImageBy a t image → IsPlaced m (P.Image x r) (Leads blocks image)
    image_placed are_placed image image_ok a_letters (pairs, image_is) =
        let covers_a : Covers f a.letters = subst (Covers f) (sym a_letters) (covered blocks is) in
        plain m (P.Image x r) (Leads blocks image) (length pairs)
        (are_placed (check_name check n (Some flow)) x r 0 0 (blocks, a) (blocks, t) (blocks, image) pairs
        (perhaps m x (Leads blocks a) placed 0) (perhaps_r m r (LeadsR blocks t) placed_r 0) (record {
          distinct = image_is.distinct;
          all = λ z v (source, left, right). image_is.all z (map f source, map f v, left, letters_reached (λ k. k) f t z.right source v right);
          below = λ k v led. let less = state_of_reach image image_ok k (map f v) led in omega (arith, image_is.count);
          reached = λ k z at v. image_is.reached f covers_a k z at v;
        }))
