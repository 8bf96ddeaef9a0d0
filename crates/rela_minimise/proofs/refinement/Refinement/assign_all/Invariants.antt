use Rattle.rela_minimise.specs.Refining.{AreAssigned}
use Rattle.rela_minimise.specs.Stored.{stage_of}
use Rattle.rela_minimise.proofs.refinement.Refinement.assign_all.Given as goal

abbrev pub invariant-loop-i : goal.invariant-loop-i
invariant-loop-i l = AreAssigned l.waiting l.targets l.i (stage_of l.initial.self) (stage_of l.self)
