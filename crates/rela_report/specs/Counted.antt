-- The counts of a report's rows while they are made.
use Rattle.std.specs.Prelude.{◌≡◌, ℕ, ◌+◌, [], ◌∷◌, count_by}
use Rattle.rela_report.specs.Status.{is_compliant, is_violated, is_undecided, is_unselected}
use Rattle.rela_report.specs.declared.counts.Counts.{Counts}
use Rattle.rela_report.specs.declared.rows.ReportRow.{ReportRow}

-- how many rows are counted, of all kinds together
abbrev pub counted : Counts → ℕ
counted counts = counts.compliant + counts.violated + counts.undecided + counts.unselected

-- this row is counted besides, as one of its kind
pub record CountsOneMore (old new : Counts) (row : ReportRow) : Type 0 where
  pub compliant : new.compliant ≡ old.compliant + count_by is_compliant (row ∷ [])
  pub violated : new.violated ≡ old.violated + count_by is_violated (row ∷ [])
  pub undecided : new.undecided ≡ old.undecided + count_by is_undecided (row ∷ [])
  pub unselected : new.unselected ≡ old.unselected + count_by is_unselected (row ∷ [])
