use Rattle.rela_minimise.specs.Stored.{lists_of}
use Rattle.rela_minimise.proofs.Putting.{Precede}
use Rattle.rela_minimise.proofs.predecessors.predecessors.Given as goal

abbrev pub invariant-loop-p : goal.invariant-loop-p
invariant-loop-p g l = Precede l.dfa l.p (lists_of l.lists.items)
