-- The leaves of the binary trie of some prefixes, each with the longest prefix that holds it.
use Rattle.std.specs.Prelude.{◌≡◌, ℕ, ◌+◌, ◌-◌, ◌^◌, List, ◌++◌, map, Option}
use Rattle.std.specs.List.{All}
use Rattle.rela_flows.specs.declared.prefix.Ipv4Prefix.{Ipv4Prefix}
use Rattle.rela_prefixes.specs.declared.leaf.Leaf.{Leaf}
use Rattle.rela_prefixes.specs.declared.leaf.Numbered.{Numbered}
use Rattle.rela_prefixes.specs.Classes.{Adjoin, IsClass}
use Rattle.rela_prefixes.specs.Holding.{Holds}
use Rattle.rela_prefixes.specs.Inside.{IsKnown}
use Rattle.rela_prefixes.specs.Longest.{Longest}

-- a class, and what is the longest prefix for each of its addresses
pub record IsLeaf (prefixes : List Ipv4Prefix) (leaf : Leaf) : Type 0 where
  pub class : IsClass prefixes leaf.cell
  pub longest : (a : ℕ) → Holds leaf.cell a → Longest prefixes a leaf.longest

abbrev pub cells : List Leaf → List Ipv4Prefix
cells leaves = map (λ leaf. leaf.cell) leaves

-- leaves that follow one another from an address on up to one
pub record AreLeaves (prefixes : List Ipv4Prefix) (from to : ℕ) (leaves : List Leaf) : Type 0 where
  pub each : All (IsLeaf prefixes) leaves
  pub adjoin : Adjoin from (cells leaves) to

-- The new list has the leaves of the cell behind the old ones, for all prefixes that are known so.
unfoldable pub HasLeaves : Ipv4Prefix → List Numbered → Option ℕ → List Leaf → List Leaf → Type 0
HasLeaves cell inside above old new =
    (prefixes : List Ipv4Prefix) → IsKnown prefixes cell inside above
    → (more : List Leaf) × (new ≡ old ++ more) × AreLeaves prefixes cell.address (cell.address
    + 2 ^ (32 - cell.length)) more
