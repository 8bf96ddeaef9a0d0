-- A hasher that keeps what it is fed.
use Rattle.std.specs.Prelude.{ℕ, ◌-◌, ◌++◌, if◌then◌else◌, nat_le, List, length}

-- the bytes that were kept, and how many more there is room for
pub record Recorded : Type 0 where
  pub bytes : List ℕ
  pub room : ℕ

-- with these bytes behind those that were kept, if there is room for them
abbrev pub with_bytes : Recorded → List ℕ → Recorded
with_bytes kept bytes =
    if nat_le (length bytes) kept.room
    then record { bytes = kept.bytes ++ bytes; room = kept.room - length bytes }
    else kept
