use Rattle.rela_minimise.proofs.Ordered.{AreOrdered}
use Rattle.rela_minimise.proofs.ordering.in_order.Given as goal

abbrev pub invariant-loop-q : goal.invariant-loop-q
invariant-loop-q l = AreOrdered l.classes.count l.classes.numbers.items l.renumbered.items l.numbers.items l.heads.items l.q
