use Rattle.rela_minimise.proofs.FirstClasses.{AreByFinality}
use Rattle.rela_minimise.proofs.passes.by_finality.Given as goal

abbrev pub invariant-loop-q : goal.invariant-loop-q
invariant-loop-q g l = AreByFinality l.dfa l.first l.q l.count l.numbers.items
