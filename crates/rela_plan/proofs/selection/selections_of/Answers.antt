use Rattle.std.proofs.Common.{◌≡◌, ◌+◌, length, take, subst, sym, rules}
use Rattle.rela_plan.specs.Selection.{AreSelections, IsAnswer}
use Rattle.rela_flows.specs.declared.predicate.Predicate.{Predicate}
use Rattle.rela_plan.proofs.PlanSteps.{selections_push}
use Rattle.rela_plan.proofs.Selections.{all_answered, written_back}
use Rattle.rela_plan.proofs.selection.selections_of.Goals as goal

pub loop-check-preserved : goal.loop-check-preserved
loop-check-preserved c = record {
  selections =
      subst (AreSelections c.args.block.now (take (c.loop-check.check-index + 1) c.args.checks.now)) (sym c.in_ok-push.ensures.items)
      (selections_push c.args.block.now c.args.checks.now c.loop-check.check-index c.check-item.result c.loop-check.selections.items c.selected.result
      c.check-item.is c.loop-check-test.true c.loop-check.invariant.selections
      (all_answered c.args.block.now c.check-item.result.when c.first_flows-asked.result c.selected.result c.first_flows-asked.ensures
      (subst (λ (p : Predicate). IsAnswer c.args.block.now c.first_flows-asked.result p c.selected.result) c.predicate_of.ensures.predicate c.selected.ensures.answer)));
  known =
      let long : length c.loop-check.known.items ≡ c.loop-check.known.len = search rules in
      let as_long : length c.selected.new.known ≡ c.loop-check.known.len = search rules in
      written_back c.args.block.now c.loop-check.known.items c.selected.new.known c.loop-check.known.len long as_long c.selected.ensures.known;
}
