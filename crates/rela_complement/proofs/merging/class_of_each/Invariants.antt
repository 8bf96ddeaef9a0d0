use Rattle.std.proofs.Common.{◌≡◌, take}
use Rattle.rela_complement.proofs.merging.class_of_each.Given as goal

-- those of the letters so far
abbrev pub invariant-loop-letter : goal.invariant-loop-letter
invariant-loop-letter l = l.each.items ≡ take l.letter l.classes
