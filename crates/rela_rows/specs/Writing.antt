-- Rows that are written one after the other. `names` are the location names of the alphabet.
use Rattle.std.specs.Prelude.{◌≡◌, ℕ, ◌++◌, ◌∷◌, [], List}
use Rattle.std.specs.List.{AllZip}
use Rattle.rela_flows.specs.declared.planning.PlannedRow.{PlannedRow}
use Rattle.rela_report.specs.Written.{Written, written_of}
use Rattle.rela_report.specs.declared.rows.ReportRow.{ReportRow}

-- what is written are rows of the report, one for each of these, that they become
abbrev pub AreWritten : (PlannedRow → ReportRow → Type 0) → List (List ℕ) → List PlannedRow →
    Written → Type 0
AreWritten Becomes names planned written =
    (rows : List ReportRow) × AllZip Becomes planned rows × (written ≡ written_of names rows)

-- behind any rows that were written, such a row is written too
abbrev pub IsOneMore : (ReportRow → Type 0) → List (List ℕ) → Written → Written → Type 0
IsOneMore IsIt names old new =
    (rows : List ReportRow) → old ≡ written_of names rows →
    (row : ReportRow) × IsIt row × (new ≡ written_of names (rows ++ row ∷ []))
