use Rattle.std.proofs.Common.{◌+◌, ◌-◌, None, length}
use Rattle.rela_witness.specs.Finishing.{LeadsTo}
use Rattle.rela_witness.specs.Numbered.{unnumbered}
use Rattle.rela_witness.proofs.Growing.{Closing}
use Rattle.rela_witness.proofs.onward.close_onward.Given as goal

abbrev pub invariant-loop-done : goal.invariant-loop-done
invariant-loop-done g l = Closing (LeadsTo l.a l.distances l.distance None) l.distance l.fn.numbers.items l.numbers.items l.fn.layer.items l.layer.items l.done

abbrev pub decreases-loop-done : goal.decreases-loop-done
decreases-loop-done g l = length l.fn.layer.items + unnumbered l.fn.numbers.items - l.done
