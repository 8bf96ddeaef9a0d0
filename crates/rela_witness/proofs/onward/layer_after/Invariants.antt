use Rattle.std.proofs.Common.{[], Some}
use Rattle.rela_witness.specs.Finishing.{LeadsTo}
use Rattle.rela_witness.proofs.Growing.{Passing}
use Rattle.rela_witness.proofs.onward.layer_after.Given as goal

abbrev pub invariant-loop-q : goal.invariant-loop-q
invariant-loop-q g l = Passing (LeadsTo l.a l.distances l.distance (Some l.letter)) l.distance l.fn.numbers.items l.numbers.items [] l.next.items l.layer l.q-index
