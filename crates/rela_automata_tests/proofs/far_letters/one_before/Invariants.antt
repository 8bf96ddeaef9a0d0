use Rattle.std.proofs.Common.{◌≡◌}
use Rattle.rela_automata_tests.proofs.far_letters.one_before.Given as goal

abbrev pub invariant-places : goal.invariant-places
invariant-places g l = l.words.letters ≡ l.any.letters
