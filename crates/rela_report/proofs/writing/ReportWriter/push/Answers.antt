use Rattle.std.proofs.Common.{◌≡◌, ◌++◌, ◌∷◌, [], List, ℕ, sym, subst}
use Rattle.rela_report.specs.Written.{written_of}
use Rattle.rela_report.specs.declared.rows.ReportRow.{ReportRow}
use Rattle.rela_report.specs.declared.rows.ReportRow.TheVariants.{Unselected}
use Rattle.rela_report.proofs.WriterLaws.{on_ok}
use Rattle.rela_report.proofs.writing.ReportWriter.push.Goals as goal

pub returns-in-Unselected : goal.returns-in-Unselected
returns-in-Unselected c =
    on_ok c.push_unselected.result
    (λ (pushed : (names : List (List ℕ)) (rows : List ReportRow) → c.args.self.now ≡ written_of names rows
    → c.push_unselected.new.self ≡ written_of names (rows ++ Unselected c.in-Unselected.flow ∷ [])) rows is.
    subst (λ (row : ReportRow). c.push_unselected.new.self ≡ written_of c.args.alphabet.now (rows ++ row ∷ []))
    (sym c.in-Unselected.is) (pushed c.args.alphabet.now rows is))
    c.push_unselected.ensures
