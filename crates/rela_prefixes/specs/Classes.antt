-- The classes of addresses that some prefixes cut.
use Rattle.std.specs.Prelude.{◌≡◌, ℕ, ◌+◌, ◌-◌, ◌^◌, ◌<◌, ◌⊎◌, List, [], ◌∷◌, slice_get, Some}
use Rattle.std.specs.List.{All, Any, Contains}
use Rattle.rela_flows.specs.declared.prefix.Ipv4Prefix.{Ipv4Prefix}
use Rattle.rela_prefixes.specs.Holding.{Holds, IsStrictlyWithin}

-- the prefix that is one bit shorter and holds the other
pub record IsParent (parent p : Ipv4Prefix) : Type 0 where
  pub shorter : p.length ≡ parent.length + 1
  pub holds : Holds parent p.address

-- Some prefix is a proper part of this one.
abbrev pub IsCut : List Ipv4Prefix → Ipv4Prefix → Type 0
IsCut prefixes c = Any (λ p. IsStrictlyWithin p c) prefixes

-- A class is not cut, and it is all addresses or its parent is cut.
pub record IsClass (prefixes : List Ipv4Prefix) (c : Ipv4Prefix) : Type 0 where
  pub uncut : All (λ p. ¬ IsStrictlyWithin p c) prefixes
  pub parent_cut : (c.length ≡ 0) ⊎ ((parent : Ipv4Prefix) × IsParent parent c
      × IsCut prefixes parent)

-- each begins where the one before it ends, the first at the first number, and the last ends before the second
abbrev pub Adjoin : ℕ → List Ipv4Prefix → ℕ → Type 0
Adjoin from [] to = from ≡ to
Adjoin from (c ∷ cs) to = (c.address ≡ from) × Adjoin (from + 2 ^ (32 - c.length)) cs to

-- the address lies in the prefix at the place k, and in no other
pub record IsInOne (prefixes : List Ipv4Prefix) (a k : ℕ) : Type 0 where
  pub prefix : Ipv4Prefix
  pub at : slice_get prefixes k ≡ Some prefix
  pub holds : Holds prefix a
  pub alone : (j : ℕ) (other : Ipv4Prefix) → slice_get prefixes j ≡ Some other →
      Holds other a → j ≡ k

-- the classes of some prefixes, in the order of their addresses
pub record AreClasses (prefixes classes : List Ipv4Prefix) : Type 0 where
  pub each : All (IsClass prefixes) classes
  pub every : (c : Ipv4Prefix) → IsClass prefixes c → Contains classes c
  pub in_order : Adjoin 0 classes (2 ^ 32)
  pub one : (a : ℕ) → a < 2 ^ 32 → (k : ℕ) × IsInOne classes a k
