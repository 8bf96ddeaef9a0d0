-- What ends a command early, and what is then known of the files.
use Rattle.std.specs.Prelude.{◌≡◌, ℕ, ◌≤◌, ⊤, Bool, true, false, nat_lt, Result, OnOk, IfErr}
use Rattle.rela_io.specs.Count.{Rose}
use Rattle.rela_inputs.specs.declared.reading.Halt.{Halt}
use Rattle.rela_inputs.specs.declared.reading.Halt.TheVariants.{Refused, ReadFault, Memory}
use Rattle.rela_inputs.specs.declared.refusal.Reason.{Reason}
use Rattle.rela_inputs.specs.declared.refusal.Reason.TheVariants.{TooLong}
use Rattle.rela_inputs.specs.declared.refusal.Refusal.{Refusal}

-- the most bytes that a file may have
abbrev pub max_file_bytes : ℕ
max_file_bytes = 33554432

abbrev pub is_of_length : Reason → Bool
is_of_length TooLong = true
is_of_length _ = false

-- the input is refused since its file has too many bytes
abbrev pub is_too_long : Refusal → Bool
is_too_long refusal = is_of_length refusal.reason

-- Why reading ended early, without a fault where it is for a refusal, and as too long exactly where the file opened last
-- gave more bytes than are allowed. `old` and `new` count the faults before and after, `given` is what that file gave.
abbrev pub HaltsBy : ℕ → ℕ → ℕ → Halt → Type 0
HaltsBy old new given (Refused refusal) = (new ≡ old)
    × (is_too_long refusal ≡ nat_lt max_file_bytes given)
HaltsBy old new given ReadFault = Rose old new
HaltsBy old new given Memory = new ≡ old

-- How a call ends that reads files: with a value where no fault was counted and the file opened last gave no more than is
-- allowed, or else early.
pub record Ends {A : Type 0} (old new given : ℕ) (result : Result A Halt) : Type 0 where
  pub ok_keeps_count : OnOk result (new ≡ old)
  pub ok_given : OnOk result (given ≤ max_file_bytes)
  pub halts : IfErr result (HaltsBy old new given)

-- a call that opens no file ends early for want of memory, or for a refusal that speaks of no length
abbrev pub HaltsInside : Halt → Type 0
HaltsInside (Refused refusal) = is_too_long refusal ≡ false
HaltsInside ReadFault = ⊥
HaltsInside Memory = ⊤
