use Rattle.std.proofs.Common.{◌∷◌, ◌≤◌, length, map}
use Rattle.json.specs.Token.{string}
use Rattle.rela_tokens.specs.Holds.{HoldsAll}
use Rattle.rela_tokens.specs.Pieces.{text}
use Rattle.rela_tokens.proofs.lists.read_texts.Given as goal

abbrev pub invariant-texts : goal.invariant-texts
invariant-texts l = record {
  held : HoldsAll 0 (string l.first ∷ l.initial.reader) (map text l.texts.items) l.reader;
  shorter : length l.reader ≤ length l.initial.reader;
}

abbrev pub decreases-texts : goal.decreases-texts
decreases-texts l = length l.reader
