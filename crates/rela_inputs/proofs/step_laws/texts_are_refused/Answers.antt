use Rattle.std.proofs.Common.{◌≡◌, ◌≢◌, ◌⊎◌, inl, inr, refl}
use Rattle.rela_lex.specs.declared.error.SpecError.{SpecError}
use Rattle.rela_lex.specs.declared.error.SpecError.TheVariants as spec
use Rattle.rela_inputs.specs.Halts.{refused, spec_halt}
use Rattle.rela_inputs.specs.declared.reading.Halt.TheVariants.{Memory}
use Rattle.rela_inputs.specs.declared.refusal.Input.{Input}
use Rattle.rela_inputs.specs.declared.refusal.Reason.TheVariants.{Specification}
use Rattle.rela_inputs.proofs.step_laws.texts_are_refused.Goals as goal

spec_halts : (input : Input) (e : SpecError)
    → ((e ≡ spec.Memory) × (spec_halt input e ≡ Memory)) ⊎ ((e ≢ spec.Memory) × (spec_halt input e ≡ refused input (Specification e)))
spec_halts input (spec.BadToken at) = inr (λ m. cc, refl)
spec_halts input (spec.Syntax at) = inr (λ m. cc, refl)
spec_halts input (spec.UnknownName at) = inr (λ m. cc, refl)
spec_halts input (spec.RepeatedName at) = inr (λ m. cc, refl)
spec_halts input (spec.TooDeep at) = inr (λ m. cc, refl)
spec_halts input (spec.TooLarge at) = inr (λ m. cc, refl)
spec_halts input (spec.BadNumber at) = inr (λ m. cc, refl)
spec_halts input (spec.FinerLevel at) = inr (λ m. cc, refl)
spec_halts input (spec.UnknownLocation at) = inr (λ m. cc, refl)
spec_halts input spec.Memory = inl (refl, refl)

pub returns : goal.returns
returns c = spec_halts
