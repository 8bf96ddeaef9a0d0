-- Flows by how they look, and the verdicts that they share.
use Rattle.std.proofs.Common.{◌≡◌, ℕ, ◌<◌, ◌↔◌, cond, Bool, true, List, [], ◌∷◌, length, map, get_or, Some, Result, Ok, Err, IfOk, inl, inr, refl, sym, ap, subst, ◌∙◌, arith}
use Rattle.std.specs.Prelude.{slice_get, IsSomeAnd, nat_eq}
use Rattle.std.specs.HashMap.{HashMap, get}
use Rattle.std.specs.List.{All}
use Rattle.std.proofs.lemmas.Bool.{and_parts, cases_Bool, cond-true, cond-false, eqb-true}
use Rattle.std.proofs.lemmas.List.{get_or_default}
use Rattle.std.proofs.lemmas.Option.{slice_get_read}
use Rattle.rela_engine.specs.declared.compiled.Compiled.{Compiled}
use Rattle.rela_flows.specs.declared.planning.PlannedRow.{PlannedRow}
use Rattle.rela_flows.specs.declared.planning.PlannedRow.TheVariants as planned
use Rattle.rela_engine.specs.RowOf.{RowOf}
use Rattle.rela_blocks.specs.Scenes.{paths_of}
use Rattle.rela_engine.specs.Scenes.{SamePathSets}
use Rattle.rela_graph.specs.Outline.{Outline, outline_of}
use Rattle.rela_graph.specs.Paths.{Paths, Arrives, Undelivered, locations}
use Rattle.rela_graph.specs.Topology.{Topology}
use Rattle.rela_names.specs.declared.level.Level.{Level}
use Rattle.rela_report.specs.Text.{VerdictHasTexts}
use Rattle.rela_report.specs.declared.rows.ReportRow.TheVariants.{Selected}
use Rattle.rela_report.specs.declared.rows.Row.{Row}
use Rattle.rela_snapshot.specs.declared.pairing.FlowPair.{FlowPair}
use Rattle.rela_rows.proofs.RowLaws.{under_row}
use Rattle.rela_rows.proofs.SameAsked.{asks_there, check_of, row_of_same}
use Rattle.rela_same_checks.specs.SameChecks.{AreAskedAt, AskTheSame}
use Rattle.rela_translate.specs.Checked.{Checked as Check}
use Rattle.rela_plan.specs.Alike.{look_of, LooksAs, AreAlike}
use Rattle.rela_rows.specs.Sharing.{IsVerdict, IsVerdictBy, IsVerdictOf, IsVerdictOn, IsRowBy, same_numbers, AreVerdicts}

-- what `==` calls equal is equal
equal_numbers : (x y : ℕ × ℕ) → same_numbers x y ≡ true → x ≡ y
equal_numbers x y same =
    let parts = and_parts (nat_eq x.0 y.0) (nat_eq x.1 y.1) same in
    let first : x.0 ≡ y.0 = eqb-true x.0 y.0 parts.0 in
    let second : x.1 ≡ y.1 = eqb-true x.1 y.1 parts.1 in
    λ i. (first i, second i)

-- a map in which one key got a value: what held of each entry still does, if it holds of the new one
module _ {K V S : Type 0} (same : K → K → Bool) (decides : (x y : K) → same x y ≡ true → x ≡ y) (P : K → V → Type 0) where
  pub entries_more : (old new : HashMap K V S) (key : K) (value : V) → ((q : K) → get same new q ≡ cond (same key q) (Some value) (get same old q))
      → P key value → ((q : K) (v : V) → get same old q ≡ Some v → P q v) → (q : K) (v : V) → get same new q ≡ Some v → P q v
  entries_more old new key value updates one each q v has = elim (cases_Bool (same key q)) [
    | inl same_key ↦
        let is : Some value ≡ Some v = sym (updates q ∙ cond-true (same key q) (Some value) (get same old q) same_key) ∙ has in
        let equal : value ≡ v = cc in
        subst (λ (x : V). P q x) equal (subst (λ (k : K). P k value) (decides key q same_key) one)
    | inr other_key ↦ each q v (sym (updates q ∙ cond-false (same key q) (Some value) (get same old q) other_key) ∙ has)
  ]

-- some check tells that each flow has the number of a flow
pub other_within : (pairs : List FlowPair) (others : List ℕ) (compiled : List Compiled) (flow k : ℕ)
    → All (λ c. AreAlike c.check.level pairs others) compiled → k < length compiled → flow < length pairs
    → (flow < length others) × (get_or others flow 0 < length pairs)
other_within pairs others [] flow k each inside within = absurd (omega (arith, inside))
other_within pairs others (c ∷ cs) flow k each inside within =
    let alike = each k c inside in
    (omega (arith, alike.len, within), (alike.each flow within).0)

-- at the check's level that flow looks the same
pub other_looks : (pairs : List FlowPair) (others : List ℕ) (compiled : List Compiled) (flow k : ℕ) (by : Compiled)
    → All (λ c. AreAlike c.check.level pairs others) compiled → k < length compiled → by ≡ get_or compiled k by → flow < length pairs
    → LooksAs by.check.level pairs flow (get_or others flow 0)
other_looks pairs others compiled flow k by each inside by_is within =
    subst (λ (c : Compiled). LooksAs c.check.level pairs flow (get_or others flow 0)) (sym by_is) ((each k by inside).each flow within)

pub verdicts_more : {S : Type 0} (names : List (List ℕ)) (compiled : List Compiled) (pairs : List FlowPair) (old new : HashMap (ℕ × ℕ) Row S) (flow check : ℕ) (row : Row)
    → AreVerdicts names compiled pairs old → IsVerdictOf names compiled pairs flow check row
    → ((q : ℕ × ℕ) → get same_numbers new q ≡ cond (same_numbers (flow, check) q) (Some row) (get same_numbers old q)) → AreVerdicts names compiled pairs new
verdicts_more names compiled pairs old new flow check row kept right updates f c r has =
    entries_more same_numbers equal_numbers (λ q v. IsVerdictOf names compiled pairs q.0 q.1 v) old new (flow, check) row updates right
    (λ q v was. kept q.0 q.1 v was) (f, c) r has

-- a map without entries keeps none
pub verdicts_none : {S : Type 0} (names : List (List ℕ)) (compiled : List Compiled) (pairs : List FlowPair) (verdicts : HashMap (ℕ × ℕ) Row S)
    → verdicts.entries ≡ [] → AreVerdicts names compiled pairs verdicts
verdicts_none names compiled pairs verdicts none flow check row has = absurd (let no = rw none at has in cc)

module _ (names : List (List ℕ)) (pairs : List FlowPair) (compiled : List Compiled) where
  -- a verdict that was decided, by the numbers of its flow and its check
  pub decided_of : (flow k : ℕ) (pair : FlowPair) (by : Compiled) (row : Row) → flow < length pairs → k < length compiled
      → pair ≡ get_or pairs flow pair → by ≡ get_or compiled k by → IsVerdict names by pair row
      → IsVerdictOf names compiled pairs flow k row
  decided_of flow k pair by row flow_inside check_inside pair_is by_is verdict =
      subst (λ o. IsSomeAnd o (λ (p : FlowPair). IsSomeAnd (slice_get compiled k) (λ (c : Compiled). IsVerdict names c p row)))
      (sym (slice_get_read pairs (length pairs) flow pair refl flow_inside pair_is))
      (subst (λ o. IsSomeAnd o (λ (c : Compiled). IsVerdict names c pair row))
      (sym (slice_get_read compiled (length compiled) k by refl check_inside by_is)) verdict)

  -- and back
  pub verdict_at : (flow k : ℕ) (pair : FlowPair) (by : Compiled) (row : Row) → flow < length pairs → k < length compiled
      → pair ≡ get_or pairs flow pair → by ≡ get_or compiled k by → IsVerdictOf names compiled pairs flow k row
      → IsVerdict names by pair row
  verdict_at flow k pair by row flow_inside check_inside pair_is by_is verdict =
      subst (λ o. IsSomeAnd o (λ (c : Compiled). IsVerdict names c pair row)) (slice_get_read compiled (length compiled) k by refl check_inside by_is)
      (subst (λ o. IsSomeAnd o (λ (p : FlowPair). IsSomeAnd (slice_get compiled k) (λ (c : Compiled). IsVerdict names c p row)))
      (slice_get_read pairs (length pairs) flow pair refl flow_inside pair_is) verdict)

-- the verdict by a check, from one by a compiled check that asks for the same
pub verdict_by : (names : List (List ℕ)) (pairs : List FlowPair) (checks : List Check) (compiled : List Compiled) (places : List ℕ) (flow k : ℕ) (pair : FlowPair)
    (by : Compiled) (row : Row) → flow < length pairs → k < length checks → AreAskedAt (map check_of compiled) checks places
    → pair ≡ get_or pairs flow pair → by ≡ get_or compiled (get_or places k 0) by → IsVerdict names by pair row
    → IsVerdictBy names checks compiled pairs flow k row
verdict_by names pairs checks compiled places flow k pair by row flow_inside check_inside asked pair_is by_is verdict = λ states limits.
    let check : Check = get_or checks k by.check in
    let check_is : check ≡ get_or checks k check = get_or_default checks k by.check check check_inside in
    let there = asks_there compiled checks places k check asked check_inside in
    let same : AskTheSame check by.check =
    subst (λ (c : Check). AskTheSame c by.check) (sym check_is) (subst (λ (b : Compiled). AskTheSame (get_or checks k check) b.check) (sym by_is) (there.1 by)) in
    let limit : by.states ≡ states = ap (λ (b : Compiled). b.states) by_is ∙ limits (get_or places k 0) by there.0 in
    subst (λ o. IsSomeAnd o (λ (p : FlowPair). IsSomeAnd (slice_get checks k) (λ (c : Check). RowOf c (length names) (paths_of c.level names p.before p.after) states row)))
    (sym (slice_get_read pairs (length pairs) flow pair refl flow_inside pair_is))
    (subst (λ o. IsSomeAnd o (λ (c : Check). RowOf c (length names) (paths_of c.level names pair.before pair.after) states row))
    (sym (slice_get_read checks (length checks) k check refl check_inside check_is))
    (row_of_same check by.check (length names) by.states states names pair row same limit verdict.right))

-- the row of a flow under a check, from its verdict
pub shown_row : (names : List (List ℕ)) (pairs : List FlowPair) (checks : List Check) (compiled : List Compiled) (flow k : ℕ) (pair : FlowPair) (check : Check)
    (planned_row : PlannedRow) (row : Row) → flow < length pairs → k < length checks → pair ≡ get_or pairs flow pair → check ≡ get_or checks k check
    → planned_row ≡ planned.Selected flow k → IsVerdictBy names checks compiled pairs flow k row
    → IsRowBy names checks compiled pairs planned_row (Selected pair.class.name check.name row)
shown_row names pairs checks compiled flow k pair check planned_row row flow_inside check_inside pair_is check_is is verdict = λ states limits.
    let of_flow : IsSomeAnd (slice_get checks k) (λ (c : Check). RowOf c (length names) (paths_of c.level names pair.before pair.after) states row) =
    subst (λ o. IsSomeAnd o (λ (p : FlowPair). IsSomeAnd (slice_get checks k) (λ (c : Check). RowOf c (length names) (paths_of c.level names p.before p.after) states row)))
    (slice_get_read pairs (length pairs) flow pair refl flow_inside pair_is) (verdict states limits) in
    let right : RowOf check (length names) (paths_of check.level names pair.before pair.after) states row =
    subst (λ o. IsSomeAnd o (λ (c : Check). RowOf c (length names) (paths_of c.level names pair.before pair.after) states row))
    (slice_get_read checks (length checks) k check refl check_inside check_is) of_flow in
    under_row names states pairs checks flow k pair check planned_row (Selected pair.class.name check.name row) is flow_inside check_inside pair_is check_is
    (record { flow_name = refl; check_name = refl; verdict = right })

-- two flows that look the same, by their numbers
pub same_looks : (level : Level) (pairs : List FlowPair) (flow other : ℕ) (pair another : FlowPair) → pair ≡ get_or pairs flow pair
    → another ≡ get_or pairs other another → LooksAs level pairs flow other → look_of level pair ≡ look_of level another
same_looks level pairs flow other pair another pair_is another_is looks =
    ap (look_of level) pair_is ∙ looks.1 pair ∙ ap (look_of level) (get_or_default pairs other pair another looks.0 ∙ sym another_is)

-- what rela_graph says of two graphs that look the same at a level
pub record LookAlike (level : Level) (g h : Topology) : Type 0 where
  pub paths : outline_of level g ≡ outline_of level h → (names : List (List ℕ)) (w : List ℕ) → Paths g level names w ↔ Paths h level names w
  pub arrives : outline_of level g ≡ outline_of level h → (n : ℕ) (w : List ℕ) → Arrives g (locations g level) n w ↔ Arrives h (locations h level) n w
  pub undelivered : outline_of level g ≡ outline_of level h → (names : List (List ℕ)) (w : List ℕ) → Undelivered g level names w ↔ Undelivered h level names w

same_sets : (level : Level) (names : List (List ℕ)) (pair other : FlowPair) → LookAlike level other.before pair.before → LookAlike level other.after pair.after
    → look_of level pair ≡ look_of level other
    → SamePathSets (paths_of level names other.before other.after) (paths_of level names pair.before pair.after)
same_sets level names pair other before after same =
    let first : outline_of level other.before ≡ outline_of level pair.before = sym (ap (λ (look : Outline × Outline). look.0) same) in
    let second : outline_of level other.after ≡ outline_of level pair.after = sym (ap (λ (look : Outline × Outline). look.1) same) in
    record {
      pre = before.paths first names;
      post = after.paths second names;
      pre_places = record { at_node = before.arrives first; at_end = before.undelivered first names };
      post_places = record { at_node = after.arrives second; at_end = after.undelivered second names };
    }

-- a verdict on a flow is one on each flow that looks the same, if rows carry over
pub verdict_there : (names : List (List ℕ)) (by : Compiled) (pair other : FlowPair) (level : Level) → level ≡ by.check.level
    → LookAlike level other.before pair.before → LookAlike level other.after pair.after
    → (SamePathSets (paths_of by.check.level names other.before other.after) (paths_of by.check.level names pair.before pair.after)
    → (check : Check) (locations limit : ℕ) (row : Row) → RowOf check locations (paths_of by.check.level names other.before other.after) limit row
    → RowOf check locations (paths_of by.check.level names pair.before pair.after) limit row)
    → look_of by.check.level pair ≡ look_of by.check.level other → (row : Row) → IsVerdict names by other row → IsVerdict names by pair row
verdict_there names by pair other level is before after carries same row verdict =
    let here : look_of level pair ≡ look_of level other = subst (λ (l : Level). look_of l pair ≡ look_of l other) (sym is) same in
    let sets : SamePathSets (paths_of by.check.level names other.before other.after) (paths_of by.check.level names pair.before pair.after) =
    subst (λ (l : Level). SamePathSets (paths_of l names other.before other.after) (paths_of l names pair.before pair.after)) is
    (same_sets level names pair other before after here) in
    record { right = carries sets by.check (length names) by.states row verdict.right; texts = verdict.texts }

-- a verdict on the flow of a number is one on the flow that is there
pub verdict_on_flow : (names : List (List ℕ)) (pairs : List FlowPair) (flow : ℕ) (pair : FlowPair) (by : Compiled) (row : Row)
    → flow < length pairs → pair ≡ get_or pairs flow pair → IsVerdictOn names by pairs flow row → IsVerdict names by pair row
verdict_on_flow names pairs flow pair by row inside pair_is verdict =
    subst (λ o. IsSomeAnd o (λ (p : FlowPair). IsVerdict names by p row)) (slice_get_read pairs (length pairs) flow pair refl inside pair_is) verdict

-- and the other way round, of what a call answers
pub verdict_from : {E : Type 0} (names : List (List ℕ)) (pairs : List FlowPair) (flow : ℕ) (pair : FlowPair) (by : Compiled) (answer : Result Row E)
    → flow < length pairs → pair ≡ get_or pairs flow pair
    → IfOk answer (RowOf by.check (length names) (paths_of by.check.level names pair.before pair.after) by.states) → IfOk answer (VerdictHasTexts names)
    → IfOk answer (IsVerdictOn names by pairs flow)
verdict_from names pairs flow pair by (Ok row) inside pair_is right texts =
    subst (λ o. IsSomeAnd o (λ (p : FlowPair). IsVerdict names by p row)) (sym (slice_get_read pairs (length pairs) flow pair refl inside pair_is))
    (record { right = right; texts = texts })
verdict_from names pairs flow pair by (Err e) inside pair_is right texts = tt

-- a verdict on the flow of a number, by a check that has a number too
pub verdict_of_check : (names : List (List ℕ)) (pairs : List FlowPair) (compiled : List Compiled) (flow k : ℕ) (pair : FlowPair) (by : Compiled) (row : Row)
    → flow < length pairs → k < length compiled → pair ≡ get_or pairs flow pair → by ≡ get_or compiled k by → IsVerdictOn names by pairs flow row
    → IsVerdictOf names compiled pairs flow k row
verdict_of_check names pairs compiled flow k pair by row flow_inside check_inside pair_is by_is verdict =
    decided_of names pairs compiled flow k pair by row flow_inside check_inside pair_is by_is (verdict_on_flow names pairs flow pair by row flow_inside pair_is verdict)
