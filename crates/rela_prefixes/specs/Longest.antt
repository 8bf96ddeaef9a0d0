-- The longest of some prefixes that holds an address.
use Rattle.std.specs.Prelude.{◌≡◌, ℕ, ◌≤◌, List, slice_get, Option, Some, None}
use Rattle.std.specs.List.{All}
use Rattle.rela_flows.specs.declared.prefix.Ipv4Prefix.{Ipv4Prefix}
use Rattle.rela_prefixes.specs.Holding.{Holds}

-- the prefix at the place k is wanted, and no wanted one is longer
pub record IsLongest (Wanted : Ipv4Prefix → Type 0) (prefixes : List Ipv4Prefix)
    (k : ℕ) : Type 0 where
  pub prefix : Ipv4Prefix
  pub at : slice_get prefixes k ≡ Some prefix
  pub wanted : Wanted prefix
  pub longest : All (λ other. Wanted other → other.length ≤ prefix.length) prefixes

-- the place of the longest wanted prefix, or none where no prefix is wanted
unfoldable pub LongestWanted : (Ipv4Prefix → Type 0) → List Ipv4Prefix → Option ℕ → Type 0
LongestWanted Wanted prefixes None = All (λ p. ¬ Wanted p) prefixes
LongestWanted Wanted prefixes (Some k) = IsLongest Wanted prefixes k

-- the place of the longest prefix that holds the address, or none where none does
abbrev pub Longest : List Ipv4Prefix → ℕ → Option ℕ → Type 0
Longest prefixes a = LongestWanted (λ p. Holds p a) prefixes
