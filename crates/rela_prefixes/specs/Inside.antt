-- Which prefixes concern a cell of the trie.
use Rattle.std.specs.Prelude.{◌≡◌, ℕ, ◌+◌, ◌*◌, ◌-◌, ◌^◌, ◌<◌, ◌≤◌, ◌⊎◌, nat_lt, if◌then◌else◌, List, length, slice_get, Option, Some}
use Rattle.std.specs.List.{All, Contains}
use Rattle.std.specs.List.Sorted.{IsNonDecreasingBy}
use Rattle.rela_flows.specs.declared.prefix.Ipv4Prefix.{Ipv4Prefix}
use Rattle.rela_prefixes.specs.declared.leaf.Numbered.{Numbered}
use Rattle.rela_prefixes.specs.Classes.{IsCut, IsParent}
use Rattle.rela_prefixes.specs.Holding.{Holds}
use Rattle.rela_prefixes.specs.Longest.{LongestWanted}

-- the prefix is the cell or a part of it
pub record IsInside (cell p : Ipv4Prefix) : Type 0 where
  pub begins : Holds cell p.address
  pub long : cell.length ≤ p.length

-- a prefix with its place in the list, that lies inside the cell
pub record IsNumbered (prefixes : List Ipv4Prefix) (cell : Ipv4Prefix) (n : Numbered) : Type 0 where
  pub at : slice_get prefixes n.number ≡ Some n.prefix
  pub inside : IsInside cell n.prefix

-- those prefixes of the list that lie inside the cell, with their places
pub record AreInside (prefixes : List Ipv4Prefix) (cell : Ipv4Prefix)
    (ns : List Numbered) : Type 0 where
  pub each : All (IsNumbered prefixes cell) ns
  pub every : (k : ℕ) (p : Ipv4Prefix) → slice_get prefixes k ≡ Some p → IsInside cell p →
      Contains ns (record { prefix = p; number = k })

-- the place in the order of the addresses, and of one address the shorter first
abbrev pub rank : Numbered → ℕ
rank n = n.prefix.address * 64 + n.prefix.length

-- prefixes inside the cell, in that order
pub record IsRun (cell : Ipv4Prefix) (ns : List Numbered) : Type 0 where
  pub within : All (λ n. IsInside cell n.prefix) ns
  pub ranked : IsNonDecreasingBy rank ns

-- the prefix holds the cell and is shorter
pub record IsAbove (cell p : Ipv4Prefix) : Type 0 where
  pub holds : Holds p cell.address
  pub short : p.length < cell.length

-- the longest prefix that holds the cell and is shorter
abbrev pub LongestAbove : List Ipv4Prefix → Ipv4Prefix → Option ℕ → Type 0
LongestAbove prefixes cell = LongestWanted (IsAbove cell) prefixes

-- the cell is all addresses, or its parent is cut
abbrev pub IsReached : List Ipv4Prefix → Ipv4Prefix → Type 0
IsReached prefixes c = (c.length ≡ 0) ⊎ ((parent : Ipv4Prefix) × IsParent parent c
    × IsCut prefixes parent)

-- where the upper half of the cell begins
abbrev pub middle_of : Ipv4Prefix → ℕ
middle_of cell = if nat_lt cell.length 32 then cell.address + 2 ^ (31 - cell.length)
    else cell.address

-- what is known of a cell: the prefixes inside it in their order, the longest above it, and that it is reached
pub record IsKnown (prefixes : List Ipv4Prefix) (cell : Ipv4Prefix) (ns : List Numbered)
    (longest : Option ℕ) : Type 0 where
  pub inside : AreInside prefixes cell ns
  pub ranked : IsNonDecreasingBy rank ns
  pub above : LongestAbove prefixes cell longest
  pub reached : IsReached prefixes cell

-- all prefixes of the list, with their places
pub record AreNumbered (prefixes : List Ipv4Prefix) (ns : List Numbered) : Type 0 where
  pub as_many : length ns ≡ length prefixes
  pub each : (k : ℕ) (p : Ipv4Prefix) → slice_get prefixes k ≡ Some p → slice_get ns k
      ≡ Some (record { prefix = p; number = k })
