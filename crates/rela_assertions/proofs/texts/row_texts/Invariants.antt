use Rattle.std.proofs.Common.{◌≡◌, take}
use Rattle.std.specs.List.{flat_map}
use Rattle.rela_assertions.specs.Text.{row_lines}
use Rattle.rela_assertions.proofs.texts.row_texts.Given as goal

-- the lines of the rows so far
abbrev pub invariant-loop-row : goal.invariant-loop-row
invariant-loop-row l = l.text.items ≡ flat_map (row_lines l.alphabet) (take l.row-index l.rows)
