-- Symbols and their letters: the letter of a symbol is its block.
use Rattle.std.specs.Prelude.{◌≡◌, ℕ, ◌↔◌, Bool, true, List, length, slice_index_or}
use Rattle.rela_labels.specs.Letters.{has}
use Rattle.rela_labels.specs.Partition.{block_count}

-- the letter of a symbol is its block; a number that is no symbol is read as a number that is no letter
abbrev pub read_by : List ℕ → ℕ → ℕ
read_by blocks s = slice_index_or blocks s (block_count blocks)

-- the letters are blocks, and those of the set are the letters of just the symbols with P
pub record HoldsJust (blocks : List ℕ) (P : ℕ → Type 0) (set : List Bool) : Type 0 where
  pub size : length set ≡ block_count blocks
  pub holds : (s : ℕ) → (has set (read_by blocks s) ≡ true) ↔ P s
