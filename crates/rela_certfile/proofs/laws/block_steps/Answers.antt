use Rattle.std.proofs.Common.{◌+◌, ◌<◌, ◌≤◌, arith}
use Rattle.rela_certfile.proofs.Derived.{step_within, steps_within}
use Rattle.rela_certfile.proofs.laws.block_steps.Goals as goal

pub returns : goal.returns
returns c = λ bound steps. (
  (λ are j step is.
      let within : (step.parent < 1 + j) × (step.symbol < bound) = step_within 1 bound steps j step are is in
      (omega (arith, within.0), within.1)),
  λ each. steps_within 1 bound steps (λ j step is.
      let within : (step.parent ≤ j) × (step.symbol < bound) = each j step is in
      (omega (arith, within.0), within.1)),
)
