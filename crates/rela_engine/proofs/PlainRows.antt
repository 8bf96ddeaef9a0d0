-- Where plain automata pass the limit a row may be left open.
use Rattle.std.proofs.Common.{◌≡◌, ◌+◌, ◌⊎◌, ◌↔◌, ℕ, List, Option, Some, length, subst, inl, inr}
use Rattle.std.specs.Option.{ForSome}
use Rattle.rela_build.specs.Made.{Leads, LeadsR}
use Rattle.rela_build.specs.PathSets.{Paths}
use Rattle.rela_compare.specs.Comparison.{ReachPairsBefore}
use Rattle.rela_labels.specs.Partition.{IsPartition}
use Rattle.rela_nfa.specs.Automaton.{Automaton}
use Rattle.rela_nfa.specs.Runs.{Accepts}
use Rattle.rela_rir.specs.Built.{PathStates}
use Rattle.rela_rir.specs.BuiltTerms.{BuiltTerms}
use Rattle.rela_rir.specs.Fixed.{IsFixedR}
use Rattle.rela_rir.specs.Limit.{Reached, ReachedInside, ReachedInsideR}
use Rattle.rela_rir.specs.Places.{Scene}
use Rattle.rela_rir.specs.ReachedTerms.{CarriedTables, ReachedTerms}
use Rattle.rela_rir.specs.Tables.{IsPlaced, IsPlacedR}
use Rattle.rela_rir.specs.Words.{ImageOf}
use Rattle.rela_rir.specs.declared.term.PathTerm.{PathTerm}
use Rattle.rela_rir.specs.declared.term.RelTerm.{RelTerm}
use Rattle.rela_rir.specs.declared.term.PathTerm.TheVariants as P
use Rattle.rela_report.specs.declared.rows.Side.TheVariants as side
use Rattle.rela_trans.specs.Machine.{Machine}
use Rattle.rela_translate.specs.Terms.{before_of, after_of}
use Rattle.rela_translate.specs.Verdict.{Offends, Offending}
use Rattle.rela_translate.specs.declared.body.Core.{Core}
use Rattle.rela_blocks.specs.FlowName.{FlowName, flow_paths}
use Rattle.rela_blocks.specs.RowBlocks.{symbols_of}
use Rattle.rela_engine.specs.Compilation.{Compilation, Relations, AreRelations}
use Rattle.rela_engine.specs.FlowMachines.{SceneName, check_name, flow_machines, flow_scenes}
use Rattle.rela_engine.specs.RowOf.{IsLast, MayBeOpen, relation_of}
use Rattle.rela_blocks.specs.Scenes.{scene, arrivals_of, before_image, after_image}
use Rattle.rela_engine.specs.Seen.{AreSides, ImagePasses, KeepPlaces, LeadAlike}
use Rattle.rela_engine.proofs.ComparedPlaces.{comparison_passes}
use Rattle.rela_engine.proofs.PlacedImages.{ArePlaced, HaveMore, relation_placed, image_passes, image_placed, plain}
use Rattle.rela_engine.proofs.Rows.{offends}

-- where the comparison ends at a word, that word offends
last_offends : (c : Compilation) (n : ℕ) (paths : Paths) (last : Option (List ℕ)) → IsLast c.check n paths last → ForSome last (Offending c.check n paths.pre paths.post)
last_offends c n paths last is end at = (subst (IsLast c.check n paths) at is).member

-- an image passes the limit where it has more places
abbrev InImage : Type 0
InImage = (at : SceneName) (k : ℕ) (x : PathTerm) (r : RelTerm) → ReachedInside (flow_scenes.of at) k (P.Image x r)
    ↔ (Reached (flow_scenes.of at) (P.Image x r) k ⊎ (ReachedInside (flow_scenes.of at) k x ⊎ ReachedInsideR (flow_scenes.of at) k r))

module _ (before_fixed : (n : ℕ) (body : Core) → IsFixedR (before_of n body)) (after_fixed : (n : ℕ) (body : Core) → IsFixedR (after_of n body))
    (carried : CarriedTables flow_machines) (built : BuiltTerms flow_machines)
    (c : Compilation) (relations : Relations) (are : AreRelations c relations) (blocks : List ℕ) (is : IsPartition blocks)
    (symbols : length blocks ≡ symbols_of c.check c.locations) (f : FlowName) where
  abbrev flow : Paths
  flow = flow_paths f

  abbrev m : Scene
  m = scene c.check c.locations flow

  abbrev before_term : RelTerm
  before_term = before_of c.locations c.check.body

  abbrev after_term : RelTerm
  after_term = after_of c.locations c.check.body

  abbrev at : SceneName
  at = check_name c.check c.locations (Some f)

  before_paths : (a : Automaton) → PathStates (length f.before.nodes) (arrivals_of f.level f.names f.before) (Leads blocks a) → IsPlaced m P.Pre (Leads blocks a)
  before_paths a states = plain m P.Pre (Leads blocks a) _ ((built.leaves at (blocks, a)).before (length f.before.nodes) states (λ never. absurd never))

  after_paths : (a : Automaton) → PathStates (length f.after.nodes) (arrivals_of f.level f.names f.after) (Leads blocks a) → IsPlaced m P.Post (Leads blocks a)
  after_paths a states = plain m P.Post (Leads blocks a) _ ((built.leaves at (blocks, a)).after (length f.after.nodes) states (λ never. absurd never))

  before_relation : (t : Machine) → LeadAlike c.blocks relations.before.plain blocks t → IsPlacedR m before_term (LeadsR blocks t)
  before_relation t alike =
      relation_placed c.check c.locations blocks is symbols f carried before_term c.blocks relations.before.plain t
      (before_fixed c.locations c.check.body) are.before.plain alike

  after_relation : (t : Machine) → LeadAlike c.blocks relations.after.plain blocks t → IsPlacedR m after_term (LeadsR blocks t)
  after_relation t alike =
      relation_placed c.check c.locations blocks is symbols f carried after_term c.blocks relations.after.plain t
      (after_fixed c.locations c.check.body) are.after.plain alike

  -- ---- an image passes the limit

  pub before_open : HaveMore → InImage → ImagePasses c.blocks blocks f.level f.names f.before relations.before.plain c.states → MayBeOpen c.check c.locations flow c.states
  before_open more inside passes last ends =
      inl ((inside at (c.states + 1) P.Pre before_term).1
      (inl (image_passes c.check c.locations blocks is symbols f P.Pre before_term passes.paths passes.relation passes.relation_ok passes.letters
      (before_paths passes.paths passes.kept.of_paths) (before_relation passes.relation passes.kept.of_relation) more c.states passes.many)))

  pub after_open : HaveMore → InImage → ImagePasses c.blocks blocks f.level f.names f.after relations.after.plain c.states → MayBeOpen c.check c.locations flow c.states
  after_open more inside passes last ends =
      inr (inl ((inside at (c.states + 1) P.Post after_term).1
      (inl (image_passes c.check c.locations blocks is symbols f P.Post after_term passes.paths passes.relation passes.relation_ok passes.letters
      (after_paths passes.paths passes.kept.of_paths) (after_relation passes.relation passes.kept.of_relation) more c.states passes.many))))

  -- ---- the comparison passes the limit

  module _ (placed : ArePlaced)
      (pre_paths : Automaton) (pre_relation : Machine) (pre_image : Automaton) (post_paths : Automaton) (post_relation : Machine) (post_image : Automaton)
      (sides : AreSides blocks c.check c.locations flow.pre flow.post pre_paths pre_relation pre_image post_paths post_relation post_image) where
    before_placed : KeepPlaces c.blocks blocks f.level f.names f.before relations.before.plain pre_paths pre_relation
        → IsPlaced m (before_image c.check c.locations) (Leads blocks pre_image)
    before_placed kept =
        let seen = sides.pre_seen in
        image_placed c.check c.locations blocks is symbols f P.Pre before_term pre_paths pre_relation seen.relation_ok seen.of_relation.letters
        (before_paths pre_paths kept.of_paths) (before_relation pre_relation kept.of_relation) placed pre_image seen.image_ok seen.of_paths.letters seen.of_pairs

    after_placed : KeepPlaces c.blocks blocks f.level f.names f.after relations.after.plain post_paths post_relation
        → IsPlaced m (after_image c.check c.locations) (Leads blocks post_image)
    after_placed kept =
        let seen = sides.post_seen in
        image_placed c.check c.locations blocks is symbols f P.Post after_term post_paths post_relation seen.relation_ok seen.of_relation.letters
        (after_paths post_paths kept.of_paths) (after_relation post_relation kept.of_relation) placed post_image seen.image_ok seen.of_paths.letters seen.of_pairs

    pub both_open : ReachedTerms flow_machines at
        → KeepPlaces c.blocks blocks f.level f.names f.before relations.before.plain pre_paths pre_relation
        → KeepPlaces c.blocks blocks f.level f.names f.after relations.after.plain post_paths post_relation
        → ReachPairsBefore pre_image post_image (Offends c.check.at_most (Accepts pre_image) (Accepts post_image)) (c.states + 1)
        → MayBeOpen c.check c.locations flow c.states
    both_open reached before after many last ends =
        inr (inr (comparison_passes m blocks is symbols reached.comparison (before_image c.check c.locations) (after_image c.check c.locations)
        pre_image post_image sides.pre_seen.of_image.letters (before_placed before) (after_placed after)
        (Offending c.check c.locations flow.pre flow.post) (Offends c.check.at_most (Accepts pre_image) (Accepts post_image))
        (λ w. (offends blocks (Accepts pre_image) (Accepts post_image)
        (ImageOf flow.pre (relation_of side.Before c.check c.locations)) (ImageOf flow.post (relation_of side.After c.check c.locations))
        sides.pre_seen.of_image.language sides.post_seen.of_image.language c.check.at_most w).1)
        c.states many last (last_offends c c.locations flow last ends)))
