use Rattle.std.proofs.Common.{◌∙◌, List, ℕ, ap, get_or, subst, sym}
use Rattle.rela_report.specs.declared.rows.ReportRow.TheVariants.{Selected, Unselected}
use Rattle.rela_snapshot.specs.declared.pairing.FlowPair.{FlowPair}
use Rattle.rela_translate.specs.Checked.{Checked as Check}
use Rattle.rela_rows.specs.Sharing.{IsRowBy}
use Rattle.rela_rows.proofs.Judging.{on_ok}
use Rattle.rela_rows.proofs.RowLaws.{alone_row}
use Rattle.rela_rows.proofs.Shared.{shown_row}
use Rattle.rela_rows.proofs.rows.write_row.Goals as goal

pub returns-in-Unselected-clause-row : goal.returns-in-Unselected-clause-row
returns-in-Unselected-clause-row c =
    let within = rw c.in-Unselected.is at c.requires.planned in
    let pair = c.index-pairs-flow.result in
    let name = (get_or c.args.pairs.now c.in-Unselected.flow pair).class.name in
    on_ok c.push_unselected.result (λ pushed rows is. (
      Unselected name,
      alone_row c.args.alphabet.now c.args.judges.now.checks.now c.args.judges.now.compiled.now c.args.pairs.now c.in-Unselected.flow pair
          name c.args.planned.now c.in-Unselected.is within c.index-pairs-flow.is (ap (λ (p : FlowPair). p.class.name) (sym c.index-pairs-flow.is)),
      pushed c.args.alphabet.now rows is,
    )) c.push_unselected.ensures

pub returns-in_ok-row-in-Selected-clause-row : goal.returns-in_ok-row-in-Selected-clause-row
returns-in_ok-row-in-Selected-clause-row c =
    let within = rw c.in-Selected.is at c.requires.planned in
    let judges = c.args.judges.now in
    let pair = c.index-pairs-flow-in-Selected.result in
    let check = c.index-judges-check.result in
    let row = c.in_ok-row-in-Selected.row in
    let named = c.name.ensures ∙ ap (λ (b : Check). b.name) (sym c.index-judges-check.is) in
    on_ok c.push_selected.result (λ pushed rows is. (
      Selected pair.class.name c.name.result.now row,
      subst (λ (name : List ℕ). IsRowBy c.args.alphabet.now judges.checks.now judges.compiled.now c.args.pairs.now c.args.planned.now (Selected pair.class.name name row)) (sym named)
          (shown_row c.args.alphabet.now c.args.pairs.now judges.checks.now judges.compiled.now c.in-Selected.flow c.in-Selected.check pair check c.args.planned.now row
          within.0 within.1 c.index-pairs-flow-in-Selected.is c.index-judges-check.is c.in-Selected.is c.in_ok-row-in-Selected.ensures.verdict),
      pushed rows is,
    )) c.push_selected.ensures
