use Rattle.std.proofs.Common.{◌<◌, ℕ, Option, arith, length, refl, subst}
use Rattle.rela_fib.specs.Steps.{IsWithin}
use Rattle.rela_fib.proofs.Steps.{step_none, step_some}
use Rattle.rela_fib.proofs.device.Device.step.Goals as goal

pub index-requires : goal.index-requires
index-requires c =
    let lt : c.in-Some.place < length c.args.self.now.steps.items = subst (λ (o : Option ℕ). IsWithin c.args.self.now o) c.in-Some.is c.requires in
    omega (arith, lt, c.args.self.now.steps.ok.0)

pub returns-in-Some : goal.returns-in-Some
returns-in-Some c = step_some c.args.self.now c.in-Some.place c.args.choice c.index.result.now c.in-Some.is c.requires c.index.ensures

pub returns-in-None : goal.returns-in-None
returns-in-None c = step_none c.args.self.now c.args.choice c.args.self.now.otherwise c.in-None.is refl
