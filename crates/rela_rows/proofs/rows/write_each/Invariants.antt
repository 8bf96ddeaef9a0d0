use Rattle.std.proofs.Common.{take}
use Rattle.rela_rows.specs.Kept.{AreKept}
use Rattle.rela_rows.specs.Sharing.{IsRowBy}
use Rattle.rela_rows.specs.Writing.{AreWritten}
use Rattle.rela_rows.proofs.rows.write_each.Given as goal

-- the rows so far are written, and what is kept of the flows
abbrev pub invariant-loop-row : goal.invariant-loop-row
invariant-loop-row l = record {
  rows : AreWritten (IsRowBy l.alphabet l.judges.checks.now l.judges.compiled.now l.pairs) l.alphabet (take l.row-index l.planned) l.writer;
  kept : AreKept l.alphabet l.judges.compiled.now l.pairs l.kept;
}
