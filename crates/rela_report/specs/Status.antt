-- Which verdicts there are among the rows, and the exit status that says so.
use Rattle.std.specs.Prelude.{ℕ, Bool, true, false, if◌then◌else◌, List}
use Rattle.std.specs.List.{list_any}
use Rattle.rela_report.specs.declared.rows.Row.TheVariants.{Compliant, Violated, Undecided}
use Rattle.rela_report.specs.declared.rows.ReportRow.{ReportRow}
use Rattle.rela_report.specs.declared.rows.ReportRow.TheVariants.{Unselected, Selected}

abbrev pub is_compliant : ReportRow → Bool
is_compliant (Unselected flow) = false
is_compliant (Selected flow check Compliant) = true
is_compliant (Selected flow check (Violated word side source)) = false
is_compliant (Selected flow check Undecided) = false

abbrev pub is_violated : ReportRow → Bool
is_violated (Unselected flow) = false
is_violated (Selected flow check Compliant) = false
is_violated (Selected flow check (Violated word side source)) = true
is_violated (Selected flow check Undecided) = false

abbrev pub is_undecided : ReportRow → Bool
is_undecided (Unselected flow) = false
is_undecided (Selected flow check Compliant) = false
is_undecided (Selected flow check (Violated word side source)) = false
is_undecided (Selected flow check Undecided) = true

abbrev pub is_unselected : ReportRow → Bool
is_unselected (Unselected flow) = true
is_unselected (Selected flow check row) = false

-- 1 where a row is violated, else 3 where one is undecided, else 0
abbrev pub status_of : List ReportRow → ℕ
status_of rows = if list_any is_violated rows then 1
    else if list_any is_undecided rows then 3 else 0
