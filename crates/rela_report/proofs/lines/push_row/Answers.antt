use Rattle.std.proofs.Common.{◌≡◌, ◌++◌, List, ℕ, sym, subst}
use Rattle.rela_report.specs.Text.{row_lines}
use Rattle.rela_report.specs.declared.rows.ReportRow.{ReportRow}
use Rattle.rela_report.specs.declared.rows.ReportRow.TheVariants.{Unselected}
use Rattle.rela_report.proofs.WriterLaws.{on_ok}
use Rattle.rela_report.proofs.lines.push_row.Goals as goal

pub returns-in-Unselected : goal.returns-in-Unselected
returns-in-Unselected c =
    on_ok c.push_unselected_line.result
    (λ (lined : (names : List (List ℕ)) → c.push_unselected_line.new.text.items ≡ c.args.text.now.items ++ row_lines names (Unselected c.in-Unselected.flow)).
    subst (λ (row : ReportRow). c.push_unselected_line.new.text.items ≡ c.args.text.now.items ++ row_lines c.args.alphabet.now row)
    (sym c.in-Unselected.is) (lined c.args.alphabet.now))
    c.push_unselected_line.ensures.line
