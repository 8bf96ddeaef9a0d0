use Rattle.std.proofs.Common.{◌≡◌, take, length}
use Rattle.rela_labels.specs.Numbering.{IsNumbering}
use Rattle.rela_labels.proofs.numbering.number_keys.Given as goal

abbrev pub invariant-loop-key : goal.invariant-loop-key
invariant-loop-key l = record {
  bound : length l.numbering.numbers.items ≡ l.bound;
  numbering : IsNumbering (take l.key-index l.keys) l.numbering.numbers.items l.numbering.blocks.items l.numbering.firsts.items;
}
