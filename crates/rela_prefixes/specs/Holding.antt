-- Prefixes and the addresses in them, which are numbers below 2 ^ 32.
use Rattle.std.specs.Prelude.{ℕ, ◌<◌}
use Rattle.rela_flows.specs.Address.{AgreeInFirst}
use Rattle.rela_flows.specs.declared.prefix.Ipv4Prefix.{Ipv4Prefix}

-- the address lies in the prefix
abbrev pub Holds : Ipv4Prefix → ℕ → Type 0
Holds p a = AgreeInFirst 32 p.length a p.address

-- the first prefix holds all addresses of the second or none
abbrev pub HoldsAllOrNone : Ipv4Prefix → Ipv4Prefix → Type 0
HoldsAllOrNone p c = (a b : ℕ) → Holds c a → Holds c b → Holds p a → Holds p b

-- the first prefix is a proper part of the second
pub record IsStrictlyWithin (p q : Ipv4Prefix) : Type 0 where
  pub within : (a : ℕ) → Holds p a → Holds q a
  pub longer : q.length < p.length
