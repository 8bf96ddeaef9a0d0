use Rattle.std.proofs.Common.{ℕ, map, take}
use Rattle.std.specs.List.{AllZip}
use Rattle.rela_fib.specs.Steps.{IsStepWith}
use Rattle.rela_fib.specs.declared.step.Step.{Step}
use Rattle.rela_fib.proofs.devices.Devices.steps.Given as goal

abbrev pub invariant-loop-place : goal.invariant-loop-place
invariant-loop-place l = AllZip (λ (place : ℕ) (step : Step). IsStepWith l.self.devices.items l.choices place step) (take l.place-index l.self.of_nodes.items) (map (λ s. s.now) l.steps.items)
