use Rattle.std.proofs.Common.{None}
use Rattle.std.proofs.lemmas.Result.{IfErr-weaker, on_ok_weaker}
use Rattle.rela_build.specs.PathSets.{no_paths}
use Rattle.rela_engine.specs.FlowMachines.{SceneName}
use Rattle.rela_engine.proofs.LimitedParts.{noted_within, stopped_inside}
use Rattle.rela_engine.proofs.relation.plain_relation.Goals as goal

pub returns-clause-within : goal.returns-clause-within
returns-clause-within c =
    on_ok_weaker c.transducer.result
    (noted_within c.args.letters.now no_paths (c.complements_inside.ensures.forced_pairs (c.args.letters.now, None)) ⊥ _ c.args.limit c.requires.same c.args.term.now _ _)
    c.transducer.ensures.noted

pub returns-clause-past : goal.returns-clause-past
returns-clause-past c =
    let at : SceneName = (c.args.letters.now, None) in
    IfErr-weaker c.transducer.result _ _
    (λ e stopped. stopped_inside c.args.letters.now no_paths (c.reached_states_are_places.ensures at).complement (c.complements_inside.ensures.reached_pairs at)
    c.are_covered.ensures.letters ⊥ _ c.args.limit _ c.requires.same c.args.term.now e stopped)
    c.transducer.ensures.stopped
