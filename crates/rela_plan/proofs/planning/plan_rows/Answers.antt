use Rattle.std.proofs.Common.{◌%◌, subst, length, List, ℕ}
use Rattle.std.specs.List.{HoldsAt}
use Rattle.rela_flows.specs.Plan.{ArePlaces}
use Rattle.rela_plan.specs.Selection.{HasFlow, AreSelections, block_at}
use Rattle.rela_plan.proofs.PlanLaws.{within_counts}
use Rattle.rela_plan.proofs.PlanSteps.{same_block, flow_planned, all_planned}
use Rattle.rela_plan.proofs.planning.plan_rows.Goals as goal

pub loop-flow-preserved : goal.loop-flow-preserved
loop-flow-preserved c =
    let places = c.in_ok-push_rows_of_flow.ensures.0 in record {
      planned =
          flow_planned c.args.pairs.now c.args.checks.now c.loop-flow.flow c.loop-flow.rows.items c.push_rows_of_flow.new.rows.items
          c.in_ok-selections.selections.items places c.loop-flow-test.true c.in_ok-selections.ensures
          (subst (λ (words : List ℕ). ArePlaces (λ k. HoldsAt (λ flows. HasFlow flows (c.loop-flow.flow % 64)) words k) (length words) places)
          c.deref.ensures.value c.in_ok-push_rows_of_flow.ensures.1)
          c.in_ok-push_rows_of_flow.ensures.2 c.loop-flow.invariant.planned;
      kept = λ within.
          subst (λ (first : ℕ). AreSelections (block_at first c.args.pairs.now) c.args.checks.now c.in_ok-selections.selections.items)
          (same_block c.loop-flow.flow within) c.in_ok-selections.ensures;
    }

pub returns-clause-planned : goal.returns-clause-planned
returns-clause-planned c =
    all_planned c.args.pairs.now c.args.checks.now c.loop-flow.flow c.loop-flow.rows.items c.loop-flow-test.false c.loop-flow.invariant.planned

pub returns-clause-within : goal.returns-clause-within
returns-clause-within c =
    within_counts (λ pair. pair.class) (λ check. check.when) c.args.pairs.now c.args.checks.now c.loop-flow.rows.items
    (all_planned c.args.pairs.now c.args.checks.now c.loop-flow.flow c.loop-flow.rows.items c.loop-flow-test.false c.loop-flow.invariant.planned)
