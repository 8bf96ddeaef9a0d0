-- The letters by which terms are built, and what is asked of the blocks of symbols that are letters.
use Rattle.std.specs.Prelude.{◌≡◌, ℕ, ◌+◌, ◌<◌, ◌↔◌, Bool, true, List, length, Some, slice_get, MatchBool, All, Contains}
use Rattle.rela_labels.specs.Letters.{has}
use Rattle.rela_labels.specs.Partition.{IsPartition, Together, block_of, block_count}
use Rattle.rela_rir.specs.Meaning.{HasSymbol}
use Rattle.rela_rir.specs.declared.set.SymbolSet.{SymbolSet}
use Rattle.rela_build.specs.Reading.{HoldsJust}

-- the class table of the terms, how many path symbols there are, how many markers come after them, and the block of
-- each of these symbols
pub record Lettering : Type 0 where
  pub classes : List SymbolSet
  pub path_symbols : ℕ
  pub markers : ℕ
  pub blocks : List ℕ

-- each entry of the class table lists both symbols or neither
abbrev pub AreListedAlike : List SymbolSet → ℕ → ℕ → Type 0
AreListedAlike classes s t = All (λ set. Contains set.members s ↔ Contains set.members t) classes

-- the blocks are of the path symbols and the markers; no block has both, and each class is a union of blocks
pub record AreLetterBlocks (l : Lettering) : Type 0 where
  pub symbols : length l.blocks ≡ l.path_symbols + l.markers
  pub partition : IsPartition l.blocks
  pub of_path : (s t : ℕ) → s < length l.blocks → t < length l.blocks → Together l.blocks s t →
      s < l.path_symbols → t < l.path_symbols
  pub of_classes : (s t : ℕ) → s < length l.blocks → t < length l.blocks → Together l.blocks s t →
      AreListedAlike l.classes s t

-- the symbol is a block of its own
pub record IsAlone (blocks : List ℕ) (s : ℕ) : Type 0 where
  pub symbol : s < length blocks
  pub alone : (t : ℕ) → t < length blocks → Together blocks t s → t ≡ s

-- the symbol is in the entry k of the class table
abbrev pub IsInEntry : Lettering → ℕ → ℕ → Type 0
IsInEntry l k s = (set : SymbolSet) × (slice_get l.classes k ≡ Some set)
    × HasSymbol l.path_symbols set s

-- the letters of the path symbols, and those of each class
pub record AreLetters (l : Lettering) (path : List Bool) (classes : List (List Bool)) : Type 0 where
  pub blocks : AreLetterBlocks l
  pub of_path : HoldsJust l.blocks (λ s. s < l.path_symbols) path
  pub count : length classes ≡ length l.classes
  pub each : (k : ℕ) (set : List Bool) → slice_get classes k ≡ Some set →
      HoldsJust l.blocks (IsInEntry l k) set

-- the block has one of the members
abbrev pub HasMember : List ℕ → List ℕ → ℕ → Type 0
HasMember blocks members k = (s : ℕ) × Contains members s × (block_of blocks s ≡ k)

-- the block has a member of the class, or, where the class is negated, it is of path symbols and has none
abbrev pub IsClassLetter : List ℕ → List Bool → SymbolSet → ℕ → Type 0
IsClassLetter blocks path class k =
    MatchBool class.negated ((has path k ≡ true) × (¬ HasMember blocks class.members k))
    (HasMember blocks class.members k)

-- the letters of the class, where those of the path symbols are given
pub record AreClassLetters (blocks : List ℕ) (path : List Bool) (class : SymbolSet)
    (set : List Bool) : Type 0 where
  pub size : length set ≡ block_count blocks
  pub letters : (k : ℕ) → (has set k ≡ true) ↔ IsClassLetter blocks path class k
