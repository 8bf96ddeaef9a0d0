-- The rows that a plan has differ, and name its flows and its checks.
use Rattle.std.proofs.Common.{◌≡◌, ◌≢◌, ℕ, ◌+◌, ◌<◌, ◌≤◌, zero, suc, List, [], ◌∷◌, ◌++◌, length, map, refl, sym, ap, subst, arith}
use Rattle.std.specs.List.{All, AllByRecursion, AllPairs, AllZip}
use Rattle.std.proofs.lemmas.List.Elements.{All-from_recursion, recursion_from_All}
use Rattle.std.proofs.lemmas.List.Kept.{AllPairs-from_increasing}
use Rattle.rela_flows.specs.Plan.{ArePlaces, Plan, SelectedAt, rows_from, rows_of_flow}
use Rattle.rela_flows.specs.declared.predicate.FlowClass.{FlowClass}
use Rattle.rela_flows.specs.declared.predicate.Predicate.{Predicate}
use Rattle.rela_flows.specs.declared.planning.PlannedRow.{PlannedRow}
use Rattle.rela_flows.specs.declared.planning.PlannedRow.TheVariants.{Selected, Unselected}
use Rattle.rela_certfile.specs.Layout.{IsNamed}

-- each differs from all later ones
abbrev Differ : List PlannedRow → Type 0
Differ [] = Unit {0}
Differ (row ∷ rows) = AllByRecursion (λ other. row ≢ other) rows × Differ rows

differ_pairs : (rows : List PlannedRow) → Differ rows → AllPairs (λ a b. a ≢ b) rows
differ_pairs [] differ i j d less within = absurd (omega arith)
differ_pairs (row ∷ rows) differ zero zero d less within = absurd (omega arith)
differ_pairs (row ∷ rows) differ zero (suc j) d less within =
    All-from_recursion (λ other. row ≢ other) rows differ.0 j d (omega arith)
differ_pairs (row ∷ rows) differ (suc i) zero d less within = absurd (omega arith)
differ_pairs (row ∷ rows) differ (suc i) (suc j) d less within =
    differ_pairs rows differ.1 i j d (omega arith) (omega arith)

all_both : (P : PlannedRow → Type 0) (a b : List PlannedRow) → AllByRecursion P a → AllByRecursion P b → AllByRecursion P (a ++ b)
all_both P [] b first then = then
all_both P (row ∷ a) b first then = (first.0, all_both P a b first.1 then)

differ_both : (a b : List PlannedRow) → Differ a → Differ b → AllByRecursion (λ row. AllByRecursion (λ other. row ≢ other) b) a → Differ (a ++ b)
differ_both [] b first then apart = then
differ_both (row ∷ a) b first then apart =
    (all_both (λ other. row ≢ other) a b first.0 apart.0, differ_both a b first.1 then apart.1)

abbrev flow_of : PlannedRow → ℕ
flow_of (Selected flow check) = flow
flow_of (Unselected flow) = flow

abbrev check_of : PlannedRow → ℕ
check_of (Selected flow check) = check
check_of (Unselected flow) = 0

-- the rows of a flow under some checks
checked : ℕ → List ℕ → List PlannedRow
checked flow checks = map (λ k. Selected flow k) checks

later_checks : (flow check : ℕ) (checks : List ℕ) → AllByRecursion (λ k. check < k) checks → AllByRecursion (λ other. Selected flow check ≢ other) (checked flow checks)
unfolding checked
later_checks flow check [] above = tt
later_checks flow check (k ∷ checks) above =
    ((λ same. let alike : check ≡ k = ap check_of same in let less : check < k = above.0 in omega arith), later_checks flow check checks above.1)

differ_checks : (flow : ℕ) (checks : List ℕ) → AllPairs (λ j k. j < k) checks → Differ (checked flow checks)
unfolding checked
differ_checks flow [] rise = tt
differ_checks flow (check ∷ checks) rise = (
  later_checks flow check checks (recursion_from_All (λ k. check < k) checks (λ j d within. rise 0 (suc j) d (omega arith) (omega arith))),
  differ_checks flow checks (λ i j d less within. rise (suc i) (suc j) d (omega arith) (omega arith)),
)

differ_flow : (flow : ℕ) (checks : List ℕ) → AllPairs (λ j k. j < k) checks → Differ (rows_of_flow flow checks)
unfolding checked
differ_flow flow [] rise = (tt, tt)
differ_flow flow (check ∷ checks) rise = differ_checks flow (check ∷ checks) rise

of_checks : (flow : ℕ) (checks : List ℕ) → AllByRecursion (λ row. flow_of row ≡ flow) (checked flow checks)
unfolding checked
of_checks flow [] = tt
of_checks flow (check ∷ checks) = (refl, of_checks flow checks)

of_flow : (flow : ℕ) (checks : List ℕ) → AllByRecursion (λ row. flow_of row ≡ flow) (rows_of_flow flow checks)
unfolding checked
of_flow flow [] = (refl, tt)
of_flow flow (check ∷ checks) = of_checks flow (check ∷ checks)

above_flow : (flow n : ℕ) (rows : List PlannedRow) → n ≤ flow → AllByRecursion (λ row. flow_of row ≡ flow) rows → AllByRecursion (λ row. n ≤ flow_of row) rows
above_flow flow n [] below of = tt
above_flow flow n (row ∷ rows) below of = (omega (arith, of.0), above_flow flow n rows below of.1)

of_later : (flow : ℕ) (n : ℕ) (selecting : List (List ℕ)) → n ≤ flow → AllByRecursion (λ row. n ≤ flow_of row) (rows_from flow selecting)
of_later flow n [] below = tt
of_later flow n (checks ∷ more) below =
    all_both (λ row. n ≤ flow_of row) (rows_of_flow flow checks) (rows_from (flow + 1) more)
    (above_flow flow n (rows_of_flow flow checks) below (of_flow flow checks))
    (of_later (flow + 1) n more (omega arith))

apart_later : (row : PlannedRow) (rows : List PlannedRow) (n : ℕ) → flow_of row < n → AllByRecursion (λ other. n ≤ flow_of other) rows → AllByRecursion (λ other. row ≢ other) rows
apart_later row [] n less above = tt
apart_later row (other ∷ rows) n less above =
    ((λ same. let alike : flow_of row ≡ flow_of other = ap flow_of same in let far : n ≤ flow_of other = above.0 in omega arith), apart_later row rows n less above.1)

apart_flow : (flow : ℕ) (a rows : List PlannedRow) → AllByRecursion (λ row. flow_of row ≡ flow) a → AllByRecursion (λ other. flow + 1 ≤ flow_of other) rows → AllByRecursion (λ row. AllByRecursion (λ other. row ≢ other) rows) a
apart_flow flow [] rows of above = tt
apart_flow flow (row ∷ a) rows of above =
    (apart_later row rows (flow + 1) (omega (arith, of.0)) above, apart_flow flow a rows of.1 above)

module _ (predicates : List Predicate) where
  differ_from : (flow : ℕ) (classes : List FlowClass) (selecting : List (List ℕ)) → AllZip (λ class places. ArePlaces (SelectedAt predicates class) (length predicates) places) classes selecting → Differ (rows_from flow selecting)
  differ_from flow [] [] each = tt
  differ_from flow [] (checks ∷ more) each = absurd each
  differ_from flow (class ∷ classes) [] each = absurd each
  differ_from flow (class ∷ classes) (checks ∷ more) each =
      differ_both (rows_of_flow flow checks) (rows_from (flow + 1) more)
      (differ_flow flow checks (AllPairs-from_increasing checks each.0.ascending))
      (differ_from (flow + 1) classes more each.1)
      (apart_flow flow (rows_of_flow flow checks) (rows_from (flow + 1) more) (of_flow flow checks) (of_later (flow + 1) (flow + 1) more (omega arith)))

  named_checks : (flows flow : ℕ) (checks : List ℕ) → flow < flows → AllByRecursion (λ k. k < length predicates) checks → AllByRecursion (IsNamed flows (length predicates)) (checked flow checks)
  unfolding checked
  named_checks flows flow [] inside below = tt
  named_checks flows flow (check ∷ checks) inside below = ((inside, below.0), named_checks flows flow checks inside below.1)

  named_flow : (flows flow : ℕ) (checks : List ℕ) → flow < flows → AllByRecursion (λ k. k < length predicates) checks → AllByRecursion (IsNamed flows (length predicates)) (rows_of_flow flow checks)
  unfolding checked
  named_flow flows flow [] inside below = (tt, tt)
  named_flow flows flow (check ∷ checks) inside below = named_checks flows flow (check ∷ checks) inside below

  named_from : (flows flow : ℕ) (classes : List FlowClass) (selecting : List (List ℕ)) → flow + length classes ≤ flows → AllZip (λ class places. ArePlaces (SelectedAt predicates class) (length predicates) places) classes selecting → AllByRecursion (IsNamed flows (length predicates)) (rows_from flow selecting)
  named_from flows flow [] [] inside each = tt
  named_from flows flow [] (checks ∷ more) inside each = absurd each
  named_from flows flow (class ∷ classes) [] inside each = absurd each
  named_from flows flow (class ∷ classes) (checks ∷ more) inside each =
      all_both (IsNamed flows (length predicates)) (rows_of_flow flow checks) (rows_from (flow + 1) more)
      (named_flow flows flow checks (omega arith) (recursion_from_All (λ k. k < length predicates) checks each.0.below))
      (named_from flows (flow + 1) classes more (omega arith) each.1)

pub planned_differ : (classes : List FlowClass) (predicates : List Predicate) (rows : List PlannedRow) → Plan classes predicates rows → AllPairs (λ a b. a ≢ b) rows
planned_differ classes predicates rows plan =
    subst (λ rs. AllPairs (λ a b. a ≢ b) rs) (sym plan.in_order)
    (differ_pairs (rows_from 0 plan.selecting) (differ_from predicates 0 classes plan.selecting plan.each))

pub planned_named : (classes : List FlowClass) (predicates : List Predicate) (rows : List PlannedRow) → Plan classes predicates rows → All (IsNamed (length classes) (length predicates)) rows
planned_named classes predicates rows plan =
    subst (λ rs. All (IsNamed (length classes) (length predicates)) rs) (sym plan.in_order)
    (All-from_recursion (IsNamed (length classes) (length predicates)) (rows_from 0 plan.selecting)
    (named_from predicates (length classes) 0 classes plan.selecting (omega arith) plan.each))
