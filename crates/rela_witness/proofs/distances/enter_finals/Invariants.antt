use Rattle.rela_witness.proofs.Searching.{Entering}
use Rattle.rela_witness.proofs.distances.enter_finals.Given as goal

abbrev pub invariant-loop-q : goal.invariant-loop-q
invariant-loop-q g l = Entering l.a l.fn.numbers.items l.numbers.items l.fn.layer.items l.layer.items l.q
