use Rattle.std.proofs.Common.{◌≤◌, List, length, map}
use Rattle.json.specs.Token.{Token}
use Rattle.rela_tokens.specs.Holds.{Holds, HoldsAll}
use Rattle.rela_tokens.specs.Pieces.{whole}
use Rattle.rela_tokens.proofs.lists.read_numbers.Given as goal

abbrev pub invariant-numbers : goal.invariant-numbers
invariant-numbers l = record {
  held : (start : List Token) → Holds 0 start (whole l.fn.first) l.initial.reader → HoldsAll 0 start (map whole l.numbers.items) l.reader;
  shorter : length l.reader ≤ length l.initial.reader;
}

abbrev pub decreases-numbers : goal.decreases-numbers
decreases-numbers l = length l.reader
