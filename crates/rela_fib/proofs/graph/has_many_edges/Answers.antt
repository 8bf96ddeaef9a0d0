use Rattle.std.proofs.Common.{Bor, ap, arith, length}
use Rattle.rela_fib.specs.declared.step.Step.{Step}
use Rattle.rela_fib.proofs.Steps.{many_more, many_then, not_many_steps}
use Rattle.rela_fib.proofs.graph.has_many_edges.Goals as goal

pub returns-then-count-spare : goal.returns-then-count-spare
returns-then-count-spare c = many_then (λ (s : Bor Step). s.now) c.args.steps.now c.loop-step.step-index c.loop-step.spare (length c.as_slice-count.result.now) c.step-item.result c.loop-step-test.true c.step-item.is c.loop-step.invariant (ap length c.as_slice-count.ensures) c.if-count-spare.true

pub loop-step-preserved : goal.loop-step-preserved
loop-step-preserved c = many_more (λ (s : Bor Step). s.now) c.args.steps.now c.loop-step.step-index c.loop-step.spare _ (length c.as_slice-count.result.now) c.step-item.result c.loop-step-test.true c.step-item.is c.loop-step.invariant (ap length c.as_slice-count.ensures) (omega (arith, c.if-count-spare.false))

pub returns : goal.returns
returns c = not_many_steps (λ (s : Bor Step). s.now) c.args.steps.now c.loop-step.step-index c.loop-step.spare c.loop-step-test.false c.loop-step.invariant
