use Rattle.std.proofs.Common.{◌<◌, Bor, ap, arith, ℕ, List, get_or, length, subst, sym}
use Rattle.rela_fib.specs.Steps.{AreWithin, IsStepWith}
use Rattle.rela_fib.specs.declared.device.Device.{Device}
use Rattle.rela_fib.specs.declared.step.Step.{Step}
use Rattle.rela_fib.proofs.Steps.{read_again, zip_more_seen}
use Rattle.rela_fib.proofs.devices.Devices.steps.Goals as goal

pub step_at-requires-clause-within : goal.step_at-requires-clause-within
step_at-requires-clause-within c = subst (λ (ds : List Device). AreWithin ds c.args.choices.now) (sym c.as_slice-devices.ensures.value) c.requires.within

pub step_at-requires-clause-place : goal.step_at-requires-clause-place
step_at-requires-clause-place c =
    let i = c.loop-place.place-index in
    let nodes = c.args.self.now.of_nodes.items in
    let same = c.deref-place-items.ensures.value in
    let lt : i < length nodes = omega (arith, c.loop-place-test.true, ap length same) in
    let below : get_or nodes i 0 < length c.args.self.now.devices.items = c.requires.matched.of_nodes i 0 lt in
    omega (arith, below, ap (λ (ns : List ℕ). get_or ns i 0) same, ap length c.as_slice-devices.ensures.value)

pub loop-place-preserved : goal.loop-place-preserved
loop-place-preserved c =
    let i = c.loop-place.place-index in
    let d = c.args.self.now in
    let nodes = d.of_nodes.items in
    let same = c.deref-place-items.ensures.value in
    let lt : i < length nodes = omega (arith, c.loop-place-test.true, ap length same) in
    let one = subst (λ (ds : List Device). IsStepWith ds c.args.choices.now (get_or nodes i 0) c.step_at.result.now) c.as_slice-devices.ensures.value
    (subst (λ (ns : List ℕ). IsStepWith c.as_slice-devices.result.now c.args.choices.now (get_or ns i 0) c.step_at.result.now) same c.step_at.ensures) in
    zip_more_seen (λ (place : ℕ) (step : Step). IsStepWith d.devices.items c.args.choices.now place step) (λ (s : Bor Step). s.now) nodes c.loop-place.steps.items _ i (get_or nodes i 0) c.step_at.result lt (read_again nodes i lt) c.in_ok-push.ensures.items c.loop-place.invariant one
