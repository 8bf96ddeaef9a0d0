use Rattle.std.proofs.Common.{Some}
use Rattle.rela_tables.specs.declared.route.Route.{Route}
use Rattle.rela_fib.specs.Steps.{IsStep}
use Rattle.rela_fib.specs.declared.step.Step.{Step}
use Rattle.rela_fib.proofs.Steps.{zip_more}
use Rattle.rela_fib.proofs.device.steps_by.Goals as goal

pub loop-route-preserved : goal.loop-route-preserved
loop-route-preserved c = zip_more (λ (route : Route) (step : Step). IsStep c.args.nodes.now (Some route) step) c.args.routes.now c.loop-route.steps.items _ c.loop-route.route-index c.route-item.result c.in_ok-step.step c.loop-route-test.true c.route-item.is c.in_ok-push.ensures.items c.loop-route.invariant c.in_ok-step.ensures
