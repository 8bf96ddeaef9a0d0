use Rattle.std.proofs.Common.{◌≡◌, take}
use Rattle.rela_reduce.specs.Stored.{lists_of}
use Rattle.rela_reduce.proofs.widening.copied.Given as goal

abbrev pub invariant-loop-list : goal.invariant-loop-list
invariant-loop-list l = lists_of l.copies.items ≡ take l.list-index (lists_of l.lists)
