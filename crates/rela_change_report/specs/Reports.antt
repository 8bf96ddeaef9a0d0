-- The report on a loaded change.
use Rattle.std.specs.Prelude.{◌≡◌, ℕ, List, Result, Ok}
use Rattle.rela_inputs.specs.Answer.{Answer}
use Rattle.rela_inputs.specs.Loaded.{Loaded, names_of}
use Rattle.rela_inputs.specs.declared.refusal.Refusal.{Refusal}
use Rattle.rela_report.specs.Status.{status_of}
use Rattle.rela_report.specs.Text.{report_text}
use Rattle.rela_report.specs.declared.rows.ReportRow.{ReportRow}
use Rattle.rela_rows.specs.Rows.{AreRowsOf, AgreeInRows}

abbrev pub report_of : List (List ℕ) → List ReportRow → Answer
report_of names rows = record { text = report_text names rows; status = status_of rows }

-- the report of the rows of the flows under the checks, under this state limit
unfoldable pub Reports : ℕ → Loaded → Result Answer Refusal → Type 0
Reports states loaded r =
    (rows : List ReportRow)
    × AreRowsOf (names_of loaded) states loaded.specified.checks loaded.pairs rows
    × (r ≡ Ok (report_of (names_of loaded) rows))

-- two reports whose rows differ at most where one of them leaves the verdict open
pub record SameReports (x y : Answer) : Type 0 where
  pub names : List (List ℕ)
  pub rows : List ReportRow
  pub others : List ReportRow
  pub is_first : x ≡ report_of names rows
  pub is_second : y ≡ report_of names others
  pub agree : AgreeInRows rows others
