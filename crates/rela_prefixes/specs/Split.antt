-- How the prefixes inside a cell are split.
use Rattle.std.specs.Prelude.{◌≡◌, ◌≢◌, ℕ, ◌&&◌, ◌||◌, ◌==◌, Bool, not, nat_lt, List, IfSome, IfNone, length as len}
use Rattle.std.specs.List.{All, Contains, filter}
use Rattle.rela_flows.specs.declared.prefix.Ipv4Prefix.{Ipv4Prefix}
use Rattle.rela_prefixes.specs.declared.leaf.Halves.{Halves}
use Rattle.rela_prefixes.specs.declared.leaf.Numbered.{Numbered}
use Rattle.rela_prefixes.specs.Inside.{middle_of}

-- longer than the cell, and in its lower half
abbrev pub is_low : ℕ → ℕ → Numbered → Bool
is_low length middle n = not (n.prefix.length == length) && nat_lt n.prefix.address middle

-- longer than the cell, and in its upper half
abbrev pub is_high : ℕ → ℕ → Numbered → Bool
is_high length middle n = not (n.prefix.length == length) && not (nat_lt n.prefix.address middle)

-- the number is that of a prefix of the cell's length
pub record IsHere (length : ℕ) (ns : List Numbered) (number : ℕ) : Type 0 where
  pub one : Numbered
  pub listed : Contains ns one
  pub number_is : one.number ≡ number
  pub length_is : one.prefix.length ≡ length

-- no prefix has the cell's length
abbrev pub NoneHere : ℕ → List Numbered → Type 0
NoneHere length ns = All (λ n. n.prefix.length ≢ length) ns

-- a cell of this length is one address, or its halves are empty
abbrev pub is_uncut : ℕ → Halves → Bool
is_uncut length parts = length == 32 || (len parts.low.now == 0 && len parts.high.now == 0)

-- what the two halves of a cell's prefixes are, and one that is the cell
pub record IsParted (cell : Ipv4Prefix) (ns : List Numbered) (parts : Halves) : Type 0 where
  pub low : parts.low.now ≡ filter (is_low cell.length (middle_of cell)) ns
  pub high : parts.high.now ≡ filter (is_high cell.length (middle_of cell)) ns
  pub here : IfSome parts.here (IsHere cell.length ns)
  pub none : IfNone parts.here (NoneHere cell.length ns)
