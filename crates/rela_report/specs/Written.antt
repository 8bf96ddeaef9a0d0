-- A report as far as it is written, row by row. `names` are the location names of the alphabet.
use Rattle.std.specs.Prelude.{ℕ, List, count_by}
use Rattle.std.specs.List.{flat_map}
use Rattle.rela_report.specs.Status.{is_compliant, is_violated, is_undecided, is_unselected}
use Rattle.rela_report.specs.Text.{row_lines}
use Rattle.rela_report.specs.declared.rows.ReportRow.{ReportRow}

-- the lines of rows, and how many rows there are of each kind
pub record Written : Type 0 where
  pub lines : List ℕ
  pub compliant : ℕ
  pub violated : ℕ
  pub undecided : ℕ
  pub unselected : ℕ

-- what is written of these rows
abbrev pub written_of : List (List ℕ) → List ReportRow → Written
written_of names rows = record {
  lines = flat_map (row_lines names) rows;
  compliant = count_by is_compliant rows;
  violated = count_by is_violated rows;
  undecided = count_by is_undecided rows;
  unselected = count_by is_unselected rows;
}
