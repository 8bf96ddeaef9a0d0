use Rattle.std.proofs.Common.{All, List, [], arith, subst, sym}
use Rattle.std.specs.List.{AllZip}
use Rattle.std.proofs.lemmas.List.Elements.{All-nil}
use Rattle.rela_report.specs.Text.{RowHasTexts}
use Rattle.rela_report.specs.declared.rows.ReportRow.{ReportRow}
use Rattle.rela_rows.specs.Sharing.{IsRowBy}
use Rattle.rela_rows.proofs.Loops.{All-more, zip_more}
use Rattle.rela_rows.proofs.rows.decide_each.Goals as goal

pub loop-row-init : goal.loop-row-init
loop-row-init c = record {
  rows =
      subst (λ (rows : List ReportRow). AllZip (IsRowBy c.args.alphabet.now c.args.judges.now.checks.now c.args.judges.now.compiled.now c.args.pairs.now) [] rows)
      (sym c.in_ok-rows.ensures.items) tt;
  texts =
      subst (λ (rows : List ReportRow). All (RowHasTexts c.args.alphabet.now) rows) (sym c.in_ok-rows.ensures.items)
      (All-nil (RowHasTexts c.args.alphabet.now));
  kept = c.requires.kept;
}

pub loop-row-preserved : goal.loop-row-preserved
loop-row-preserved c = record {
  rows =
      zip_more (IsRowBy c.args.alphabet.now c.args.judges.now.checks.now c.args.judges.now.compiled.now c.args.pairs.now) c.args.planned.now
      c.loop-row.rows.items c.push.new.self.items c.loop-row.row-index _ c.in_ok-row_of.field-0 (omega arith)
      c.loop-row.invariant.rows c.in_ok-push.ensures.items c.in_ok-row_of.ensures.row;
  texts =
      All-more (RowHasTexts c.args.alphabet.now) c.loop-row.rows.items c.push.new.self.items c.in_ok-row_of.field-0
      c.in_ok-push.ensures.items c.loop-row.invariant.texts c.in_ok-row_of.ensures.texts;
  kept = c.in_ok-row_of.ensures.kept;
}
