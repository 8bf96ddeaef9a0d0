use Rattle.std.proofs.Common.{◌≡◌, ◌++◌, take}
use Rattle.rela_print.specs.Print.{lines}
use Rattle.rela_print.proofs.canonical.print.Given as goal

abbrev pub invariant-loop-item : goal.invariant-loop-item
invariant-loop-item l = l.out.items ≡ l.initial.out.items ++ lines (take l.item-index l.item-items)
