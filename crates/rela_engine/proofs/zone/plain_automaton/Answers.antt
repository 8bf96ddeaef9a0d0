use Rattle.std.proofs.Common.{None}
use Rattle.rela_build.specs.PathSets.{no_paths}
use Rattle.rela_engine.specs.FlowMachines.{SceneName}
use Rattle.rela_engine.proofs.ComplementedParts.{noted_within, stopped_inside}
use Rattle.rela_engine.proofs.zone.plain_automaton.Goals as goal

pub returns-in-Ok-clause-within : goal.returns-in-Ok-clause-within
returns-in-Ok-clause-within c =
    noted_within c.args.letters.now no_paths (c.complements_inside.ensures.forced (c.args.letters.now, None)) ⊥ _ c.args.limit c.new-complements.ensures c.args.term.now _ _
    c.in-Ok.ensures.noted

pub returns-clause-past : goal.returns-clause-past
returns-clause-past c is =
    let at : SceneName = (c.args.letters.now, None) in
    stopped_inside c.args.letters.now no_paths (c.reached_states_are_places.ensures at).complement (c.complements_inside.ensures.reached at)
    c.are_covered.ensures.letters ⊥ _ c.args.limit _ c.new-complements.ensures c.args.term.now c.in-Err.stop
    c.in-Err.ensures.stopped (c.error_of.ensures.limit is)
