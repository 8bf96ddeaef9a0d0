use Rattle.std.proofs.Common.{◌≤◌, List, length, map}
use Rattle.json.specs.Token.{Token}
use Rattle.rela_tokens.specs.Holds.{Holds, HoldsAll}
use Rattle.rela_tokens.specs.Pieces.{pair}
use Rattle.rela_tokens.proofs.lists.read_more_pairs.Given as goal

abbrev pub invariant-pairs : goal.invariant-pairs
invariant-pairs l = record {
  held : (start : List Token) → Holds 1 start (pair l.fn.first) l.initial.reader → HoldsAll 1 start (map pair l.pairs.items) l.reader;
  shorter : length l.reader ≤ length l.initial.reader;
}

abbrev pub decreases-pairs : goal.decreases-pairs
decreases-pairs l = length l.reader
