-- The error of a check that is too large, or for which there isn't memory.
use Rattle.std.specs.Prelude.{ℕ}
use Rattle.rela_expand.specs.declared.unfit.Unfit.{Unfit}
use Rattle.rela_expand.specs.declared.unfit.Unfit.TheVariants as unfit
use Rattle.rela_lex.specs.declared.error.SpecError.{SpecError}
use Rattle.rela_lex.specs.declared.error.SpecError.TheVariants.{Memory, TooLarge}

-- of a check whose name begins at this byte
abbrev pub refusal_at : ℕ → Unfit → SpecError
refusal_at at unfit.TooLarge = TooLarge at
refusal_at at unfit.Memory = Memory
