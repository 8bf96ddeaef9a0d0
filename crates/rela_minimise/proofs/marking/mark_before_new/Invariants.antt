use Rattle.rela_minimise.specs.Refining.{Marks, PrecedesNew}
use Rattle.rela_minimise.specs.Stored.{lists_of}
use Rattle.rela_minimise.proofs.marking.mark_before_new.Given as goal

abbrev pub invariant-loop-class : goal.invariant-loop-class
invariant-loop-class l = Marks (PrecedesNew (lists_of l.predecessors) (lists_of l.members) l.first l.class) l.initial.stale l.initial.waiting.items l.stale l.waiting.items
