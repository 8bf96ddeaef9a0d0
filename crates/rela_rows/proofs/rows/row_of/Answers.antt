use Rattle.std.proofs.Common.{◌∙◌, ◌≡◌, ap, get_or, subst, sym}
use Rattle.rela_report.specs.declared.rows.ReportRow.{ReportRow}
use Rattle.rela_report.specs.declared.rows.ReportRow.TheVariants.{Selected}
use Rattle.rela_translate.specs.Checked.{Checked as Check}
use Rattle.rela_rows.specs.Sharing.{IsRowBy}
use Rattle.rela_rows.proofs.Loops.{if_ok}
use Rattle.rela_rows.proofs.RowLaws.{alone_row}
use Rattle.rela_rows.proofs.Shared.{shown_row}
use Rattle.rela_rows.proofs.rows.row_of.Goals as goal

pub returns-in_ok-copy-in-Unselected-clause-row : goal.returns-in_ok-copy-in-Unselected-clause-row
returns-in_ok-copy-in-Unselected-clause-row c =
    let within = rw c.in-Unselected.is at c.requires.planned in
    alone_row c.args.alphabet.now c.args.judges.now.checks.now c.args.judges.now.compiled.now c.args.pairs.now c.in-Unselected.flow c.index-pairs-flow.result
    c.in_ok-copy-in-Unselected.field-0 c.args.planned.now c.in-Unselected.is within c.index-pairs-flow.is
    (c.in_ok-copy-in-Unselected.ensures ∙ ap (λ pair. pair.class.name) (sym c.index-pairs-flow.is))

pub returns-in_ok-row-in-Selected-clause-row : goal.returns-in_ok-row-in-Selected-clause-row
returns-in_ok-row-in-Selected-clause-row c =
    let within = rw c.in-Selected.is at c.requires.planned in
    let judges = c.args.judges.now in
    let pair = c.index-pairs-flow-in-Selected.result in
    let check = c.index-judges-check.result in
    let row = c.in_ok-row-in-Selected.row in
    if_ok (λ (made : ReportRow). made ≡ Selected pair.class.name (get_or judges.checks.now c.in-Selected.check check).name row)
    (IsRowBy c.args.alphabet.now judges.checks.now judges.compiled.now c.args.pairs.now c.args.planned.now) c.row_under.result
    (λ made is. subst (λ (m : ReportRow). IsRowBy c.args.alphabet.now judges.checks.now judges.compiled.now c.args.pairs.now c.args.planned.now m)
    (sym (is ∙ ap (λ (b : Check). Selected pair.class.name b.name row) (sym c.index-judges-check.is)))
    (shown_row c.args.alphabet.now c.args.pairs.now judges.checks.now judges.compiled.now c.in-Selected.flow c.in-Selected.check pair check c.args.planned.now row
    within.0 within.1 c.index-pairs-flow-in-Selected.is c.index-judges-check.is c.in-Selected.is c.in_ok-row-in-Selected.ensures.verdict))
    c.row_under.ensures
