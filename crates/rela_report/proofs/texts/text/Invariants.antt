use Rattle.std.proofs.Common.{◌≡◌, take}
use Rattle.rela_report.specs.Written.{written_of}
use Rattle.rela_report.proofs.texts.text.Given as goal

-- the rows so far are written
abbrev pub invariant-loop-row : goal.invariant-loop-row
invariant-loop-row l = l.writer ≡ written_of l.alphabet (take l.row-index l.rows)
