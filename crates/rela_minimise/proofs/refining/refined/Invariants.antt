use Rattle.std.proofs.Common.{◌+◌, ◌-◌}
use Rattle.rela_subset.specs.Deterministic.{states}
use Rattle.rela_minimise.specs.Refining.{IsRefining}
use Rattle.rela_minimise.specs.Stored.{lists_of, stage_of}
use Rattle.rela_minimise.proofs.refining.refined.Given as goal

abbrev pub invariant-loop-before : goal.invariant-loop-before
invariant-loop-before g l = IsRefining l.dfa (lists_of l.columns) l.before (stage_of l.refinement) l.waiting.items

abbrev pub decreases-loop-before : goal.decreases-loop-before
decreases-loop-before g l = states l.dfa + 1 - l.before
