-- Partitions of the symbols from 0 on: one number for each symbol, that of its block.
use Rattle.std.specs.Prelude.{◌≡◌, ◌≢◌, ℕ, ◌+◌, ◌^◌, ◌<◌, ◌≤◌, max, List, [], ◌∷◌, length, slice_index}

-- the number of the symbol's block
abbrev pub block_of : List ℕ → ℕ → ℕ
block_of partition s = slice_index partition s

-- one more than the greatest number of a block
unfoldable pub block_count : List ℕ → ℕ
block_count [] = 0
block_count (b ∷ others) = max (b + 1) (block_count others)

-- s is the least symbol of the block
pub record IsLeastOf (partition : List ℕ) (block s : ℕ) : Type 0 where
  pub within : s < length partition
  pub member : block_of partition s ≡ block
  pub least : (r : ℕ) → r < s → block_of partition r ≢ block

-- There is a symbol, and blocks are numbered in the order of their least symbols: each number below
-- that of a symbol's block is the number of an earlier symbol's block. So two symbols of one
-- block have the same number, and the numbers follow from which symbols share a block.
pub record IsPartition (partition : List ℕ) : Type 0 where
  pub some_symbol : 0 < length partition
  pub by_least : (s block : ℕ) → s < length partition → block < block_of partition s
      → (r : ℕ) × (r < s) × (block_of partition r ≡ block)

-- two symbols share a block
abbrev pub Together : List ℕ → ℕ → ℕ → Type 0
Together partition s t = block_of partition s ≡ block_of partition t

-- a partition with the least symbol of each block
pub record IsNumbered (blocks firsts : List ℕ) : Type 0 where
  pub partition : IsPartition blocks
  pub counted : (s : ℕ) → s < length blocks → block_of blocks s < length firsts
  pub first : (block : ℕ) → block < length firsts →
      IsLeastOf blocks block (slice_index firsts block)
  pub short : length firsts ≤ length blocks
  pub few : length blocks < 2 ^ 32
