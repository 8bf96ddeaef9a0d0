use Rattle.std.proofs.Common.{◌+◌, ap, refl, subst, IfOk, List, ℕ}
use Rattle.rela_snapshot.specs.declared.pairing.FlowPair.{FlowPair}
use Rattle.rela_plan.specs.Selection.{AreSelections}
use Rattle.rela_plan.proofs.PlanSteps.{block_from}
use Rattle.rela_plan.proofs.planning.selections_at.Goals as goal

pub returns : goal.returns
returns c =
    subst (λ (block : List FlowPair). IfOk c.selections_of.result (λ selections. AreSelections block c.args.checks.now selections.items))
    (block_from c.args.pairs.now _ c.args.flow (c.args.flow + c.min.result) c.if-flow-ne0.false c.requires.flow
    (ap (λ (n : ℕ). c.args.flow + n) c.min.ensures) refl) c.selections_of.ensures
