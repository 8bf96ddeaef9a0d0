use Rattle.std.proofs.Common.{take}
use Rattle.rela_reduce.specs.Stored.{lists_of}
use Rattle.rela_reduce.proofs.Lowering.{AreWidened}
use Rattle.rela_reduce.proofs.widening.widen.Given as goal

abbrev pub invariant-loop-i : goal.invariant-loop-i
invariant-loop-i l = AreWidened (lists_of l.relation) l.states (take l.i l.order) (lists_of l.initial.lists) (lists_of l.lists)
