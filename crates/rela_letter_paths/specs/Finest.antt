-- The partition of symbols in which each is a block of its own.
use Rattle.std.specs.Prelude.{◌≡◌, ℕ, ◌<◌, List, length}
use Rattle.rela_labels.specs.Partition.{block_of}

-- each symbol is the number of its block
abbrev pub IsFinest : List ℕ → Type 0
IsFinest partition = (s : ℕ) → s < length partition → block_of partition s ≡ s
