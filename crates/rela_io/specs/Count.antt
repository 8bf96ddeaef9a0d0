-- What two readings of a counter say. A counter never falls, and stays at its largest value.
use Rattle.std.specs.Prelude.{◌≡◌, ℕ, ◌+◌, ◌-◌, ◌^◌, ◌<◌, nat_lt, if◌then◌else◌}

-- the largest value of a counter
abbrev pub full : ℕ
full = 2 ^ 64 - 1

-- the counter after one more
abbrev pub counted : ℕ → ℕ
counted count = if nat_lt count full then count + 1 else count

-- the count rose, unless it is full now: a full count can't tell
abbrev pub Rose : ℕ → ℕ → Type 0
Rose old new = new < full → old < new

-- the count didn't rise, and isn't full now: so nothing was counted
pub record Stayed (old new : ℕ) : Type 0 where
  pub same : new ≡ old
  pub tells : new < full
