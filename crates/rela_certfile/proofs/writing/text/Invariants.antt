use Rattle.std.proofs.Common.{◌≡◌, take}
use Rattle.rela_certfile.specs.Text.{text_begun}
use Rattle.rela_certfile.proofs.writing.text.Given as goal

-- the rows so far
abbrev pub invariant-loop-row : goal.invariant-loop-row
invariant-loop-row l = l.writer ≡ text_begun l.layout (take l.row-index l.rows)
