-- What an error of a decoder, or of what is made of its values, ends a command with.
use Rattle.rela_fib.specs.declared.error.FibError.{FibError}
use Rattle.rela_fib.specs.declared.error.FibError.TheVariants as fib
use Rattle.rela_json.specs.declared.error.LoadError.{LoadError}
use Rattle.rela_json.specs.declared.error.LoadError.TheVariants as load
use Rattle.rela_lex.specs.declared.error.SpecError.{SpecError}
use Rattle.rela_lex.specs.declared.error.SpecError.TheVariants as spec
use Rattle.rela_snapshot.specs.declared.pairing.PairError.{PairError}
use Rattle.rela_snapshot.specs.declared.pairing.PairError.TheVariants as pair
use Rattle.rela_inputs.specs.declared.refusal.Input.{Input}
use Rattle.rela_inputs.specs.declared.refusal.Input.TheVariants.{Pair, Tables}
use Rattle.rela_inputs.specs.declared.refusal.Reason.{Reason}
use Rattle.rela_inputs.specs.declared.refusal.Reason.TheVariants.{Load, FlowDiffers, Specification, Snapshot}
use Rattle.rela_inputs.specs.declared.reading.Halt.{Halt}
use Rattle.rela_inputs.specs.declared.reading.Halt.TheVariants.{Refused, Memory}

-- the refusal of an input
abbrev pub refused : Input → Reason → Halt
refused input reason = Refused (record { input = input; reason = reason })

-- want of memory, or the refusal of this input
abbrev pub load_halt : Input → LoadError → Halt
load_halt input load.Memory = Memory
load_halt input error = refused input (Load error)

abbrev pub spec_halt : Input → SpecError → Halt
spec_halt input spec.Memory = Memory
spec_halt input error = refused input (Specification error)

abbrev pub pair_halt : PairError → Halt
pair_halt pair.Memory = Memory
pair_halt (pair.FlowDiffers row before after) = refused Pair (FlowDiffers before after)

abbrev pub fib_halt : FibError → Halt
fib_halt fib.Memory = Memory
fib_halt error = refused Tables (Snapshot error)
