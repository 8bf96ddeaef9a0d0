-- The rows to be made, from the classes of the flows and the predicates of the checks, each in file order.
use Rattle.std.specs.Prelude.{◌≡◌, ℕ, ◌+◌, ◌<◌, List, [], ◌∷◌, ◌++◌, length, map}
use Rattle.std.specs.List.{All, AllZip, Contains, HoldsAt}
use Rattle.std.specs.List.Sorted.{IsStrictlyIncreasing}
use Rattle.rela_flows.specs.Selects.{Selects}
use Rattle.rela_flows.specs.declared.predicate.FlowClass.{FlowClass}
use Rattle.rela_flows.specs.declared.predicate.Predicate.{Predicate}
use Rattle.rela_flows.specs.declared.planning.PlannedRow.{PlannedRow}
use Rattle.rela_flows.specs.declared.planning.PlannedRow.TheVariants.{Selected, Unselected}

-- the places are those below n that have P, each once, in ascending order
pub record ArePlaces (P : ℕ → Type 0) (n : ℕ) (places : List ℕ) : Type 0 where
  pub ascending : IsStrictlyIncreasing places
  pub below : All (λ k. k < n) places
  pub each : All P places
  pub every : (k : ℕ) → k < n → P k → Contains places k

-- the check at the place k selects the flow
abbrev pub SelectedAt : List Predicate → FlowClass → ℕ → Type 0
SelectedAt checks class k = HoldsAt (λ p. Selects p class) checks k

-- the rows of a flow: one for each check that selects it, or the flow alone
abbrev pub rows_of_flow : ℕ → List ℕ → List PlannedRow
rows_of_flow flow [] = Unselected flow ∷ []
rows_of_flow flow (check ∷ checks) = map (λ k. Selected flow k) (check ∷ checks)

-- the rows of one flow after the other
abbrev pub rows_from : ℕ → List (List ℕ) → List PlannedRow
rows_from flow [] = []
rows_from flow (checks ∷ more) = rows_of_flow flow checks ++ rows_from (flow + 1) more

-- The rows are those of the flows in their order, with the checks that select each.
pub record Plan (classes : List FlowClass) (checks : List Predicate)
    (rows : List PlannedRow) : Type 0 where
  pub selecting : List (List ℕ)
  pub each : AllZip (λ class places. ArePlaces (SelectedAt checks class) (length checks) places)
      classes selecting
  pub in_order : rows ≡ rows_from 0 selecting
