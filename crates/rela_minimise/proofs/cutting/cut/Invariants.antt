use Rattle.rela_minimise.specs.Cutting.{IsCutting}
use Rattle.rela_minimise.proofs.cutting.cut.Given as goal

abbrev pub invariant-loop-q : goal.invariant-loop-q
invariant-loop-q l = IsCutting l.column l.classes.count l.classes.numbers.items l.q l.firsts.items l.pairs l.numbers.items
