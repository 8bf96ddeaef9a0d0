use Rattle.std.proofs.Common.{take}
use Rattle.rela_minimise.specs.Refining.{IsOpened}
use Rattle.rela_minimise.specs.Stored.{stage_of}
use Rattle.rela_minimise.proofs.refinement.Refinement.open.Given as goal

abbrev pub invariant-loop-number : goal.invariant-loop-number
invariant-loop-number l = IsOpened (stage_of l.initial.self) (take l.number l.found) (stage_of l.self)
