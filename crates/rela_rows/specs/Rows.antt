-- The rows of a report: flow after flow, one for each check that selects the flow, or one alone. `names` are the
-- locations of the checks' level, and `states` is the state limit.
use Rattle.std.specs.Prelude.{◌≡◌, ℕ, ◌⊎◌, List, length, map, slice_get, IsSomeAnd, All}
use Rattle.std.specs.List.{AllZip}
use Rattle.rela_engine.specs.RowOf.{RowOf}
use Rattle.rela_blocks.specs.Scenes.{paths_of}
use Rattle.rela_expand.specs.Listed.{ListsPathSymbols}
use Rattle.rela_flows.specs.Plan.{Plan}
use Rattle.rela_flows.specs.declared.planning.PlannedRow.{PlannedRow}
use Rattle.rela_flows.specs.declared.planning.PlannedRow.TheVariants as planned
use Rattle.rela_report.specs.Written.{Written, written_of}
use Rattle.rela_report.specs.declared.rows.ReportRow.{ReportRow}
use Rattle.rela_report.specs.declared.rows.ReportRow.TheVariants.{Unselected, Selected}
use Rattle.rela_report.specs.declared.rows.Row.{Row}
use Rattle.rela_report.specs.declared.rows.Row.TheVariants.{Undecided}
use Rattle.rela_snapshot.specs.PairsLocated.{ArePairsLocated}
use Rattle.rela_snapshot.specs.declared.pairing.FlowPair.{FlowPair}
use Rattle.rela_translate.specs.Checked.{Checked as Check}

-- the row has the names of this flow and this check, and the verdict of the check on the flow's paths before and after
-- the change
pub record IsDecided (names : List (List ℕ)) (states : ℕ) (pair : FlowPair) (check : Check)
    (flow name : List ℕ) (row : Row) : Type 0 where
  pub flow_name : flow ≡ pair.class.name
  pub check_name : name ≡ check.name
  pub verdict : RowOf check (length names) (paths_of check.level names pair.before
      pair.after) states row

abbrev pub IsUnder : List (List ℕ) → ℕ → FlowPair → Check → ReportRow → Type 0
IsUnder names states pair check (Selected flow name row) =
    IsDecided names states pair check flow name row
IsUnder names states pair check (Unselected flow) = ⊥

-- the row is of this flow alone
abbrev pub IsAlone : FlowPair → ReportRow → Type 0
IsAlone pair (Unselected flow) = flow ≡ pair.class.name
IsAlone pair (Selected flow name row) = ⊥

-- the row of the report that a planned row becomes; flows and checks are planned by their places
abbrev pub IsRowOf : List (List ℕ) → ℕ → List Check → List FlowPair → PlannedRow →
    ReportRow → Type 0
IsRowOf names states checks pairs (planned.Unselected flow) row =
    IsSomeAnd (slice_get pairs flow) (λ pair. IsAlone pair row)
IsRowOf names states checks pairs (planned.Selected flow check) row =
    IsSomeAnd (slice_get pairs flow) (λ pair. IsSomeAnd (slice_get checks check) (λ by.
    IsUnder names states pair by row))

-- the rows of these flows under these checks: those that are planned by the flows' classes and the checks' predicates
pub record AreRowsOf (names : List (List ℕ)) (states : ℕ) (checks : List Check)
    (pairs : List FlowPair) (rows : List ReportRow) : Type 0 where
  pub planned : List PlannedRow
  pub plan : Plan (map (λ pair. pair.class) pairs) (map (λ check. check.when) checks) planned
  pub each : AllZip (IsRowOf names states checks pairs) planned rows

-- what is written are the lines of such rows
abbrev pub AreRowsWritten : List (List ℕ) → ℕ → List Check → List FlowPair → Written → Type 0
AreRowsWritten names states checks pairs written =
    (rows : List ReportRow) × AreRowsOf names states checks pairs rows
    × (written ≡ written_of names rows)

-- the classes of each check list path symbols of these locations, and at its level each node of the flows stands at
-- one of them
pub record AreChecksAt (names : List (List ℕ)) (pairs : List FlowPair)
    (checks : List Check) : Type 0 where
  pub listed : All (ListsPathSymbols names) checks
  pub located : All (λ check. ArePairsLocated names check.level pairs) checks

-- the two verdicts are equal, or one of them is left open
abbrev pub AgreeInVerdict : Row → Row → Type 0
AgreeInVerdict row other = (row ≡ other) ⊎ ((row ≡ Undecided) ⊎ (other ≡ Undecided))

-- the two rows have one flow and one check, and their verdicts agree
abbrev pub AgreeInRow : ReportRow → ReportRow → Type 0
AgreeInRow (Unselected flow) (Unselected other) = flow ≡ other
AgreeInRow (Unselected flow) (Selected other name row) = ⊥
AgreeInRow (Selected flow name row) (Unselected other) = ⊥
AgreeInRow (Selected flow name row) (Selected other named verdict) =
    (flow ≡ other) × (name ≡ named) × AgreeInVerdict row verdict

abbrev pub AgreeInRows : List ReportRow → List ReportRow → Type 0
AgreeInRows = AllZip AgreeInRow
