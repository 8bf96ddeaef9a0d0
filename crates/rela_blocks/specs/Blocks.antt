-- Which symbols of a check share a block.
use Rattle.std.specs.Prelude.{◌≡◌, ℕ, ◌<◌, ◌⊎◌, ◌↔◌, List, length}
use Rattle.rela_build.specs.Lettering.{AreListedAlike}
use Rattle.rela_labels.specs.Partition.{IsPartition, Together}
use Rattle.rela_rir.specs.declared.set.SymbolSet.{SymbolSet}
use Rattle.rela_translate.specs.Checked.{Checked}
use Rattle.rela_blocks.specs.RowBlocks.{symbols_of}

-- two locations that the class table does not tell apart
pub record AreAlike (classes : List SymbolSet) (locations s t : ℕ) : Type 0 where
  pub first : s < locations
  pub second : t < locations
  pub listed : AreListedAlike classes s t

-- the two are one symbol, or locations that the class table does not tell apart
abbrev pub AreOne : List SymbolSet → ℕ → ℕ → ℕ → Type 0
AreOne classes locations s t = (s ≡ t) ⊎ AreAlike classes locations s t

-- the symbols of the check in blocks: two share one just where they are one symbol, or locations that the
-- class table does not tell apart
pub record AreBlocks (check : Checked) (locations : ℕ) (blocks : List ℕ) : Type 0 where
  pub symbols : length blocks ≡ symbols_of check locations
  pub partition : IsPartition blocks
  pub together : (s t : ℕ) → s < length blocks → t < length blocks → Together blocks s t ↔
      AreOne check.classes locations s t
