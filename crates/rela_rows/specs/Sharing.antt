-- Verdicts that flows which look the same share.
use Rattle.std.specs.Prelude.{◌≡◌, ℕ, ◌==◌, ◌&&◌, All, Bool, List, length, slice_get, IsSomeAnd, Some}
use Rattle.std.specs.HashMap.{HashMap, get}
use Rattle.rela_engine.specs.Compilation.{Compilation}
use Rattle.rela_engine.specs.RowOf.{RowOf}
use Rattle.rela_blocks.specs.Scenes.{paths_of}
use Rattle.rela_flows.specs.declared.planning.PlannedRow.{PlannedRow}
use Rattle.rela_report.specs.Text.{VerdictHasTexts}
use Rattle.rela_report.specs.declared.rows.ReportRow.{ReportRow}
use Rattle.rela_report.specs.declared.rows.Row.{Row}
use Rattle.rela_snapshot.specs.declared.pairing.FlowPair.{FlowPair}
use Rattle.rela_translate.specs.Checked.{Checked}
use Rattle.rela_rows.specs.Rows.{IsRowOf}

-- the verdict of a compiled check on a flow, each symbol of which has a text; `names` are the locations of the check's
-- level
pub record IsVerdict (names : List (List ℕ)) (by : Compilation) (pair : FlowPair)
    (row : Row) : Type 0 where
  pub right : RowOf by.check (length names) (paths_of by.check.level names pair.before
      pair.after) by.states row
  pub texts : VerdictHasTexts names row

-- the same of the flow of this number
abbrev pub IsVerdictOn : List (List ℕ) → Compilation → List FlowPair → ℕ → Row → Type 0
IsVerdictOn names by pairs flow row = IsSomeAnd (slice_get pairs flow) (λ pair.
    IsVerdict names by pair row)

-- the same of the flow and the check of these numbers
abbrev pub IsVerdictOf : List (List ℕ) → List Compilation → List FlowPair → ℕ → ℕ → Row → Type 0
IsVerdictOf names compiled pairs flow check row =
    IsSomeAnd (slice_get pairs flow) (λ pair. IsSomeAnd (slice_get compiled check) (λ by.
    IsVerdict names by pair row))

-- the verdict is right for the flow and the check of these numbers, under the state limit that the compiled checks have
abbrev pub IsVerdictBy : List (List ℕ) → List Checked → List Compilation → List FlowPair → ℕ →
    ℕ → Row → Type 0
IsVerdictBy names checks compiled pairs flow check row =
    (states : ℕ) → All (λ by. by.states ≡ states) compiled →
    IsSomeAnd (slice_get pairs flow) (λ pair. IsSomeAnd (slice_get checks check) (λ check.
    RowOf check (length names) (paths_of check.level names pair.before pair.after) states row))

-- the row of the report that a planned row becomes, under the state limit that the compiled checks have
abbrev pub IsRowBy : List (List ℕ) → List Checked → List Compilation → List FlowPair →
    PlannedRow → ReportRow → Type 0
IsRowBy names checks compiled pairs planned row =
    (states : ℕ) → All (λ by. by.states ≡ states) compiled →
    IsRowOf names states checks pairs planned row

-- whether two pairs of numbers are equal
abbrev pub same_numbers : ℕ × ℕ → ℕ × ℕ → Bool
same_numbers x y = (x.0 == y.0) && (x.1 == y.1)

-- the verdicts are kept by the numbers of their flows and checks
abbrev pub AreVerdicts : {S : Type 0} → List (List ℕ) → List Compilation → List FlowPair →
    HashMap (ℕ × ℕ) Row S → Type 0
AreVerdicts names compiled pairs verdicts =
    (flow check : ℕ) (row : Row) → get same_numbers verdicts (flow, check) ≡ Some row →
    IsVerdictOf names compiled pairs flow check row
