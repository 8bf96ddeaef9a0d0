-- Symbols that have a block of a partition to themselves.
use Rattle.std.specs.Prelude.{◌≡◌, ℕ, ◌<◌, List, length}
use Rattle.rela_labels.specs.Partition.{Together}

-- each symbol that shares the block of s is s
abbrev pub StandsAlone : List ℕ → ℕ → Type 0
StandsAlone partition s = (t : ℕ) → t < length partition → Together partition s t → s ≡ t
