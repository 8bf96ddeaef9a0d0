use Rattle.std.proofs.Common.{take}
use Rattle.rela_fib.specs.Steps.{AreStepsBy}
use Rattle.rela_fib.proofs.device.steps_by.Given as goal

abbrev pub invariant-loop-route : goal.invariant-loop-route
invariant-loop-route l = AreStepsBy l.nodes (take l.route-index l.routes) l.steps.items
