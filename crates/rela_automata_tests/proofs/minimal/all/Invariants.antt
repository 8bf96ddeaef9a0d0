use Rattle.std.proofs.Common.{◌≡◌, length}
use Rattle.rela_automata_tests.proofs.minimal.all.Given as goal

abbrev pub invariant-loop-letter : goal.invariant-loop-letter
invariant-loop-letter l = length l.set ≡ 300
