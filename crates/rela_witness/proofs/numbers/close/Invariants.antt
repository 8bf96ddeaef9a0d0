use Rattle.std.proofs.Common.{◌+◌, ◌-◌, length}
use Rattle.rela_witness.specs.Linked.{IsLinked}
use Rattle.rela_witness.specs.Numbered.{unnumbered}
use Rattle.rela_witness.proofs.Growing.{Closing}
use Rattle.rela_witness.proofs.numbers.close.Given as goal

abbrev pub invariant-loop-done : goal.invariant-loop-done
invariant-loop-done l = Closing (IsLinked l.links) l.number l.fn.numbers.items l.numbers.items l.fn.layer.items l.layer.items l.done

abbrev pub decreases-loop-done : goal.decreases-loop-done
decreases-loop-done l = length l.fn.layer.items + unnumbered l.fn.numbers.items - l.done
