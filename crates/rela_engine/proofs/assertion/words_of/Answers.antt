use Rattle.std.proofs.Common.{◌+◌, ℕ, Some, refl, subst, sym}
use Rattle.std.proofs.lemmas.Result.{IfErr-weaker, on_ok_weaker}
use Rattle.rela_build.specs.PathSets.{scene_of}
use Rattle.rela_rir.specs.Limit.{ReachedInside}
use Rattle.rela_blocks.specs.FlowName.{FlowName, flow_paths}
use Rattle.rela_engine.specs.FlowMachines.{SceneName}
use Rattle.rela_engine.proofs.ComplementedParts.{noted_within, stopped_inside}
use Rattle.rela_engine.proofs.assertion.words_of.Goals as goal

pub returns-clause-within : goal.returns-clause-within
returns-clause-within c =
    let f : FlowName = record { level = c.args.paths.now.level; names = c.args.paths.now.alphabet.now; before = c.args.paths.now.before.now; after = c.args.paths.now.after.now } in
    on_ok_weaker c.automaton.result
    (noted_within c.args.letters.now (flow_paths f) (c.complements_inside.ensures.forced (c.args.letters.now, Some f)) ⊥ _ c.args.complements.now refl c.args.term.now _ _)
    c.automaton.ensures.noted

pub returns-clause-past : goal.returns-clause-past
returns-clause-past c =
    let f : FlowName = record { level = c.args.paths.now.level; names = c.args.paths.now.alphabet.now; before = c.args.paths.now.before.now; after = c.args.paths.now.after.now } in
    let at : SceneName = (c.args.letters.now, Some f) in
    IfErr-weaker c.automaton.result _ _
    (λ e stopped other.
    subst (λ (n : ℕ). ReachedInside (scene_of c.args.letters.now (flow_paths f)) (n + 1) c.args.term.now) c.limit.ensures.limit
    (stopped_inside c.args.letters.now (flow_paths f) (c.reached_states_are_places.ensures at).complement (c.complements_inside.ensures.reached at)
    c.are_covered.ensures.letters ⊥ _ c.limit.result _ (sym c.limit.ensures.limit) c.args.term.now e stopped other))
    c.automaton.ensures.stopped
