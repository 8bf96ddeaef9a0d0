use Rattle.std.proofs.Common.{◌≡◌, ◌-◌, ◌≤◌, length, take}
use Rattle.std.specs.Str.Parse.{AllDigits, digits_value}
use Rattle.rela_tokens.proofs.scan.number_in.Given as goal

abbrev pub invariant-digits : goal.invariant-digits
invariant-digits l = record {
  digits : AllDigits 10 (take l.count l.text);
  value : l.number ≡ digits_value 10 (take l.count l.text);
  within : l.count ≤ length l.text;
  short : l.count ≤ 9;
}

abbrev pub decreases-digits : goal.decreases-digits
decreases-digits l = length l.text - l.count
