-- Planned rows whose flows and checks are among those that there are.
use Rattle.std.specs.Prelude.{ℕ, ◌<◌}
use Rattle.rela_flows.specs.declared.planning.PlannedRow.{PlannedRow}
use Rattle.rela_flows.specs.declared.planning.PlannedRow.TheVariants as planned

-- the places of a planned row are below these counts
abbrev pub IsWithin : ℕ → ℕ → PlannedRow → Type 0
IsWithin flows checks (planned.Unselected flow) = flow < flows
IsWithin flows checks (planned.Selected flow check) = (flow < flows) × (check < checks)
