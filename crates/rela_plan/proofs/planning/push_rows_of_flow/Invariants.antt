use Rattle.std.proofs.Common.{◌≡◌, ℕ, List, ◌++◌, map}
use Rattle.std.specs.List.{HoldsAt}
use Rattle.rela_flows.specs.Plan.{ArePlaces}
use Rattle.rela_flows.specs.declared.planning.PlannedRow.TheVariants.{Selected}
use Rattle.rela_plan.specs.Selection.{HasFlow}
use Rattle.rela_plan.proofs.planning.push_rows_of_flow.Given as goal

-- the rows of the checks so far
abbrev pub invariant-loop-check : goal.invariant-loop-check
invariant-loop-check l =
    (places : List ℕ)
    × ArePlaces (λ k. HoldsAt (λ flows. HasFlow flows l.place) l.selections k) l.check places
    × (l.rows.items ≡ l.initial.rows.items ++ map (λ k. Selected l.flow k) places)
