use Rattle.std.proofs.Common.{Bor, ap, arith, length, map, ℕ}
use Rattle.std.proofs.lemmas.List.{length-map}
use Rattle.rela_fib.specs.Steps.{IsStepWith}
use Rattle.rela_fib.specs.declared.step.Step.{Step}
use Rattle.rela_fib.proofs.Steps.{zip_length}
use Rattle.rela_fib.proofs.drawing.Drawing.draw.Goals as goal

pub write-requires-clause-few : goal.write-requires-clause-few
write-requires-clause-few c =
    let d = c.args.devices.now in
    let steps = map (λ (s : Bor Step). s.now) c.in_ok-steps.steps.items in
    omega (
      arith,
      c.requires.few,
      zip_length (λ (place : ℕ) (step : Step). IsStepWith d.devices.items c.as_slice.result.now place step) d.of_nodes.items steps c.in_ok-steps.ensures.steps,
      length-map c.in_ok-steps.steps.items (λ (s : Bor Step). s.now),
      ap length c.as_slice-then-not-self-2.ensures.value,
    )
