use Rattle.std.proofs.Common.{◌≡◌, ◌≤◌, take}
use Rattle.std.specs.Str.Parse.{digits_value}
use Rattle.rela_spec.proofs.parsing.numbers.good_number.Given as goal

abbrev pub invariant-loop-byte : goal.invariant-loop-byte
invariant-loop-byte l = record {
  low : l.value ≤ 64;
  read : l.value ≡ digits_value 10 (take l.byte-index l.word);
}
