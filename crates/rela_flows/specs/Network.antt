-- The address with the bits past its first ones put to zero.
use Rattle.std.specs.Prelude.{ℕ, ◌-◌, ◌*◌, ◌/◌, ◌^◌}

-- of an address of `width` bits, the first `length`, and zeros
abbrev pub network : ℕ → ℕ → ℕ → ℕ
network width length address = address / 2 ^ (width - length) * 2 ^ (width - length)
