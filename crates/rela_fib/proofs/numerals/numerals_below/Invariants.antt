use Rattle.std.proofs.Common.{◌≡◌, length}
use Rattle.rela_fib.specs.Writing.{AreNumerals}
use Rattle.rela_fib.proofs.numerals.numerals_below.Given as goal

abbrev pub invariant-loop-number : goal.invariant-loop-number
invariant-loop-number l = record {
  ready : AreNumerals l.numerals.items;
  count : length l.numerals.items ≡ l.number;
}
