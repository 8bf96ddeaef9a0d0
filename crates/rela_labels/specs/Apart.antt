-- Partitions over a shared one: some symbols are apart, each a block of its own, and the others share blocks as there.
use Rattle.std.specs.Prelude.{◌≡◌, ℕ, ◌<◌, ◌≤◌, ◌↔◌, ◌==◌, cond, Option, None, Some, IfSome, List, [], ◌∷◌, All, Contains, length, map, slice_index}
use Rattle.std.specs.List.{range_with_len, slice_index_or}
use Rattle.std.specs.List.Sorted.{IsStrictlySortedBy}
use Rattle.std.specs.Ordering.{nat_cmp}
use Rattle.rela_labels.specs.Partition.{block_of, Together, IsNumbered}

-- each number is below those after it
abbrev pub IsAscending : List ℕ → Type 0
IsAscending symbols = IsStrictlySortedBy nat_cmp symbols

-- the next greater symbol of the symbol's block, if there is one
abbrev pub IsNext : List ℕ → ℕ → Option ℕ → Type 0
IsNext blocks s None = (t : ℕ) → s < t → t < length blocks → Together blocks t s → ⊥
IsNext blocks s (Some t) = (s < t) × (t < length blocks) × Together blocks t s
    × ((r : ℕ) → s < r → r < t → Together blocks r s → ⊥)

-- the next greater symbol of each symbol's block
pub record IsLinked (blocks : List ℕ) (next : List (Option ℕ)) : Type 0 where
  pub len : length next ≡ length blocks
  pub each : (s : ℕ) → s < length blocks → IsNext blocks s (slice_index_or next s None)

-- each symbol of the block before this one is apart; with no such symbol, each symbol of the block is
abbrev pub IsReached : List ℕ → List ℕ → ℕ → Option ℕ → Type 0
IsReached blocks apart block None = (t : ℕ) → t < length blocks → block_of blocks t
    ≡ block → Contains apart t
IsReached blocks apart block (Some s) =
    (s < length blocks) × (block_of blocks s ≡ block) × ((t : ℕ) → t < s → block_of blocks t
    ≡ block → Contains apart t)

-- the least symbol of the block that is not apart, if there is one
pub record IsLeastLeft (blocks apart : List ℕ) (block : ℕ) (s : Option ℕ) : Type 0 where
  pub reached : IsReached blocks apart block s
  pub left : IfSome s (λ s. Contains apart s → ⊥)

-- s is a symbol of the block, and the least that is not apart, if there is one
pub record IsLead (blocks apart : List ℕ) (block s : ℕ) : Type 0 where
  pub within : s < length blocks
  pub member : block_of blocks s ≡ block
  pub least : (t : ℕ) → t < length blocks → block_of blocks t ≡ block → (Contains apart t → ⊥) →
      (Contains apart s → ⊥) × (s ≤ t)

-- the number that stands beside the symbol, and the other one for a symbol that is not in the list
unfoldable pub number_beside : List ℕ → List ℕ → ℕ → ℕ → ℕ
number_beside [] numbers s other = other
number_beside (a ∷ apart) [] s other = other
number_beside (a ∷ apart) (n ∷ numbers) s other =
    cond (a == s) n (number_beside apart numbers s other)

-- the number of each symbol's block: one beside each symbol that is apart, and one for each block of the shared partition
unfoldable pub blocks_now : List ℕ → List ℕ → List ℕ → List ℕ → List ℕ
blocks_now apart beside numbers blocks =
    map (λ s. number_beside apart beside s (slice_index numbers (slice_index blocks s)))
    (range_with_len 0 (length blocks))

-- two symbols share a block, and are the same where one is apart
abbrev pub AreShared : List ℕ → List ℕ → ℕ → ℕ → Type 0
AreShared blocks apart s t = Together blocks s t × ((u : ℕ) → Contains apart u → (s ≡ u) ↔ (t ≡ u))

-- each symbol stands in the other list, at the place that is given for it
pub record ArePlaces (ascending symbols places : List ℕ) : Type 0 where
  pub len : length places ≡ length symbols
  pub below : (k : ℕ) → k < length symbols → slice_index places k < length ascending
  pub each : (k : ℕ) → k < length symbols → slice_index ascending (slice_index places k)
      ≡ slice_index symbols k

-- a shared partition with its least symbols and its links, the symbols that are apart, and the numbers of the blocks that come of it
-- with their least symbols
pub record IsLayered (blocks first : List ℕ) (next : List (Option ℕ))
    (apart beside numbers least : List ℕ) : Type 0 where
  pub shared : IsNumbered blocks first
  pub linked : IsLinked blocks next
  pub ascending : IsAscending apart
  pub within : All (λ s. s < length blocks) apart
  pub beside_len : length beside ≡ length apart
  pub numbers_len : length numbers ≡ length first
  pub numbered : IsNumbered (blocks_now apart beside numbers blocks) least
  pub together : (s t : ℕ) → s < length blocks → t < length blocks
      → Together (blocks_now apart beside numbers blocks) s t ↔ AreShared blocks apart s t
