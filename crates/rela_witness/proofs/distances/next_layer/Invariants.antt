use Rattle.std.proofs.Common.{[]}
use Rattle.rela_witness.specs.Linked.{IsLinked}
use Rattle.rela_witness.proofs.Growing.{Passing}
use Rattle.rela_witness.proofs.distances.next_layer.Given as goal

abbrev pub invariant-loop-q : goal.invariant-loop-q
invariant-loop-q l = Passing (IsLinked l.links) l.number l.fn.numbers.items l.numbers.items [] l.next.items l.layer l.q-index
