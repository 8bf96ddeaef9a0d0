use Rattle.std.proofs.Common.{◌≢◌, ◌-◌, ◌%◌}
use Rattle.rela_plan.specs.Selection.{AreSelections, block_at}
use Rattle.rela_plan.proofs.PlanSteps.{Planned}
use Rattle.rela_plan.proofs.planning.plan_rows.Given as goal

-- the rows of the flows so far, and the selections of the block of the next flow where it has begun
abbrev pub invariant-loop-flow : goal.invariant-loop-flow
invariant-loop-flow l = record {
  planned : Planned l.pairs l.checks l.flow l.rows.items;
  kept : l.flow % 64 ≢ 0 → AreSelections (block_at (l.flow - l.flow % 64) l.pairs) l.checks l.selections.items;
}
