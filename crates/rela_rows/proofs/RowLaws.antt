-- Rows by the places of flows and compiled checks.
use Rattle.std.proofs.Common.{◌≡◌, ℕ, ◌<◌, List, [], ◌∷◌, length, map, get_or, Some, refl, sym, subst}
use Rattle.std.specs.Prelude.{slice_get, IsSomeAnd}
use Rattle.std.specs.List.{All, AllZip}
use Rattle.std.proofs.lemmas.Option.{slice_get_read}
use Rattle.rela_engine.specs.declared.compiled.Compiled.{Compiled}
use Rattle.rela_flows.specs.Plan.{Plan}
use Rattle.rela_flows.specs.declared.planning.PlannedRow.{PlannedRow}
use Rattle.rela_flows.specs.declared.planning.PlannedRow.TheVariants as planned
use Rattle.rela_report.specs.declared.rows.ReportRow.{ReportRow}
use Rattle.rela_report.specs.declared.rows.ReportRow.TheVariants.{Unselected}
use Rattle.rela_snapshot.specs.PairsLocated.{IsPairLocated, ArePairsLocated}
use Rattle.rela_snapshot.specs.declared.pairing.FlowPair.{FlowPair}
use Rattle.rela_rows.specs.Rows.{IsUnder, IsAlone, IsRowOf, AreRowsOf}
use Rattle.rela_rows.specs.Sharing.{IsRowBy}
use Rattle.rela_translate.specs.Checked.{Checked as Check}

-- the nodes of a flow stand at locations of a check's level
pub located_at : (names : List (List ℕ)) (pairs : List FlowPair) (compiled : List Compiled) (flow check : ℕ) (pair : FlowPair) (by : Compiled)
    → All (λ c. ArePairsLocated names c.check.level pairs) compiled → flow < length pairs → check < length compiled
    → pair ≡ get_or pairs flow pair → by ≡ get_or compiled check by → IsPairLocated names by.check.level pair
located_at names pairs compiled flow check pair by all flow_inside check_inside pair_is by_is =
    let here : IsPairLocated names (get_or compiled check by).check.level (get_or pairs flow pair) = all check by check_inside flow pair flow_inside in
    subst (λ (p : FlowPair). IsPairLocated names by.check.level p) (sym pair_is)
    (subst (λ (c : Compiled). IsPairLocated names c.check.level (get_or pairs flow pair)) (sym by_is) here)

-- and so do those of all flows
pub all_located : (names : List (List ℕ)) (pairs : List FlowPair) (compiled : List Compiled) (check : ℕ) (by : Compiled)
    → All (λ c. ArePairsLocated names c.check.level pairs) compiled → check < length compiled → by ≡ get_or compiled check by
    → ArePairsLocated names by.check.level pairs
all_located names pairs compiled check by all inside by_is = subst (λ (c : Compiled). ArePairsLocated names c.check.level pairs) (sym by_is) (all check by inside)

-- the row of a flow alone
pub alone_row : (names : List (List ℕ)) (checks : List Check) (compiled : List Compiled) (pairs : List FlowPair) (flow : ℕ) (pair : FlowPair) (name : List ℕ) (row : PlannedRow)
    → row ≡ planned.Unselected flow → flow < length pairs → pair ≡ get_or pairs flow pair → name ≡ pair.class.name
    → IsRowBy names checks compiled pairs row (Unselected name)
alone_row names checks compiled pairs flow pair name row is inside pair_is named = λ states limits.
    subst (λ (r : PlannedRow). IsRowOf names states checks pairs r (Unselected name)) (sym is)
    (subst (λ o. IsSomeAnd o (λ (p : FlowPair). IsAlone p (Unselected name))) (sym (slice_get_read pairs (length pairs) flow pair refl inside pair_is)) named)

-- the row of a flow under a check
pub under_row : (names : List (List ℕ)) (states : ℕ) (pairs : List FlowPair) (checks : List Check) (flow check : ℕ) (pair : FlowPair) (by : Check) (row : PlannedRow) (made : ReportRow)
    → row ≡ planned.Selected flow check → flow < length pairs → check < length checks
    → pair ≡ get_or pairs flow pair → by ≡ get_or checks check by → IsUnder names states pair by made
    → IsRowOf names states checks pairs row made
under_row names states pairs checks flow check pair by row made is flow_inside check_inside pair_is by_is under =
    let there : slice_get checks check ≡ Some by = slice_get_read checks (length checks) check by refl check_inside by_is in
    subst (λ (r : PlannedRow). IsRowOf names states checks pairs r made) (sym is)
    (subst (λ o. IsSomeAnd o (λ (p : FlowPair). IsSomeAnd (slice_get checks check) (λ (b : Check). IsUnder names states p b made)))
    (sym (slice_get_read pairs (length pairs) flow pair refl flow_inside pair_is))
    (subst (λ o. IsSomeAnd o (λ (b : Check). IsUnder names states pair b made)) (sym there) under))

-- the rows under the limit that the compiled checks have
rows_by : (names : List (List ℕ)) (states : ℕ) (checks : List Check) (compiled : List Compiled) (pairs : List FlowPair) (rows : List PlannedRow) (made : List ReportRow)
    → All (λ c. c.states ≡ states) compiled → AllZip (IsRowBy names checks compiled pairs) rows made → AllZip (IsRowOf names states checks pairs) rows made
rows_by names states checks compiled pairs [] [] limits each = each
rows_by names states checks compiled pairs [] (m ∷ made) limits each = absurd each
rows_by names states checks compiled pairs (r ∷ rows) [] limits each = absurd each
rows_by names states checks compiled pairs (r ∷ rows) (m ∷ made) limits each =
    (each.0 states limits, rows_by names states checks compiled pairs rows made limits each.1)

-- the rows that are planned
pub are_rows : (names : List (List ℕ)) (states : ℕ) (checks : List Check) (pairs : List FlowPair) (compiled slice : List Compiled) (rows given : List PlannedRow) (made : List ReportRow)
    → slice ≡ compiled → All (λ c. c.states ≡ states) compiled → given ≡ rows
    → Plan (map (λ pair. pair.class) pairs) (map (λ check. check.when) checks) rows
    → AllZip (IsRowBy names checks slice pairs) given made → AreRowsOf names states checks pairs made
are_rows names states checks pairs compiled slice rows given made same limits are plan each = record {
  planned = rows;
  plan = plan;
  each =
      subst (λ (g : List PlannedRow). AllZip (IsRowOf names states checks pairs) g made) are
      (rows_by names states checks slice pairs given made (subst (λ (s : List Compiled). All (λ c. c.states ≡ states) s) (sym same) limits) each);
}
