use Rattle.std.proofs.Common.{◌⊎◌, Some}
use Rattle.std.specs.List.{Contains}
use Rattle.rela_reduce.specs.declared.arrow.Step.{Step}
use Rattle.rela_reduce.proofs.closed.add_steps.Given as goal

abbrev pub invariant-loop-arrow : goal.invariant-loop-arrow
invariant-loop-arrow l =
    (step : Step) → Contains l.steps.items step → Contains l.initial.steps.items step ⊎ Contains l.arrows (record { label = Some step.label; to = step.to })
