-- Why a construction ended, or a complement wasn't made, as why a term wasn't built.
use Rattle.std.specs.Prelude.{ℕ}
use Rattle.rela_pairs.specs.declared.errors.BuildError.{BuildError}
use Rattle.rela_pairs.specs.declared.errors.BuildError.TheVariants as B
use Rattle.rela_build.specs.declared.stop.Stop.{Stop}
use Rattle.rela_build.specs.declared.stop.Stop.TheVariants.{Limit, Refused, Memory}

abbrev pub stop_of : BuildError → Stop
stop_of B.Limit = Limit
stop_of B.Memory = Memory

-- the same of the complement with this number, for which the limit is a refusal
abbrev pub refusal_of : ℕ → BuildError → Stop
refusal_of number B.Limit = Refused number
refusal_of number B.Memory = Memory
