use Rattle.std.proofs.Common.{All, take}
use Rattle.std.specs.List.{AllZip}
use Rattle.rela_report.specs.Text.{RowHasTexts}
use Rattle.rela_rows.specs.Kept.{AreKept}
use Rattle.rela_rows.specs.Sharing.{IsRowBy}
use Rattle.rela_rows.proofs.rows.decide_each.Given as goal

-- the rows so far, each symbol that they show has a text, and what is kept of the flows
abbrev pub invariant-loop-row : goal.invariant-loop-row
invariant-loop-row l = record {
  rows : AllZip (IsRowBy l.alphabet l.judges.checks.now l.judges.compiled.now l.pairs) (take l.row-index l.planned) l.rows.items;
  texts : All (RowHasTexts l.alphabet) l.rows.items;
  kept : AreKept l.alphabet l.judges.compiled.now l.pairs l.kept;
}
