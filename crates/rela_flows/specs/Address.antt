-- Prefixes as sets of addresses.
use Rattle.std.specs.Prelude.{◌≡◌, ℕ, ◌-◌, ◌/◌, ◌^◌, ◌<◌}
use Rattle.rela_flows.specs.declared.prefix.Prefix.{Prefix}
use Rattle.rela_flows.specs.declared.prefix.Prefix.TheVariants.{V4, V6}

-- An address is of one family: an IPv4 one is a number below 2 ^ 32, an IPv6 one a number below 2 ^ 128.
pub data Address : Type 0 where
  Ipv4 : ℕ → Address
  Ipv6 : ℕ → Address

-- Of the numbers below 2 ^ width, x is one that has the first bits of y, as many as length says.
pub record AgreeInFirst (width length x y : ℕ) : Type 0 where
  pub fits : x < 2 ^ width
  pub first_bits : x / 2 ^ (width - length) ≡ y / 2 ^ (width - length)

-- The address lies in the prefix.
abbrev pub HasAddress : Prefix → Address → Type 0
HasAddress (V4 p) (Ipv4 a) = AgreeInFirst 32 p.length a p.address
HasAddress (V4 p) (Ipv6 a) = ⊥
HasAddress (V6 p) (Ipv4 a) = ⊥
HasAddress (V6 p) (Ipv6 a) = AgreeInFirst 128 p.length a p.address

-- Each address of the one lies in the other.
abbrev pub IsWithin : Prefix → Prefix → Type 0
IsWithin p q = (a : Address) → HasAddress p a → HasAddress q a

-- Some address lies in both.
abbrev pub Overlap : Prefix → Prefix → Type 0
Overlap p q = (a : Address) × HasAddress p a × HasAddress q a
