-- Symbols and their letters.
use Rattle.std.proofs.Common.{◌≡◌, ℕ, zero, suc, ◌+◌, ◌<◌, ◌≤◌, Bool, true, false, List, [], ◌∷◌, length, get_or, inl, inr, sym, ◌∙◌, arith}
use Rattle.std.proofs.lemmas.Bool.{cases_lt, false≢true}
use Rattle.std.proofs.lemmas.List.{get_or_default, get_or_past}
use Rattle.rela_labels.specs.Letters.{has}
use Rattle.rela_labels.specs.Partition.{block_of, block_count, IsPartition}
use Rattle.rela_trans.specs.Composition.{Covers}
use Rattle.rela_build.specs.Reading.{read_by}

-- only a set that is long enough has a letter
pub has_below : (set : List Bool) (k : ℕ) → has set k ≡ true → k < length set
has_below set k among = elim (cases_lt k (length set)) [
  | inl below ↦ below
  | inr past ↦ absurd (false≢true (sym (get_or_past set k false past) ∙ among))
]

within_count : (blocks : List ℕ) (s d : ℕ) → s < length blocks → get_or blocks s d < block_count blocks
unfolding block_count
within_count [] s d below = absurd (omega (arith, below))
within_count (b ∷ others) zero d below = omega arith
within_count (b ∷ others) (suc s) d below = let rest = within_count others s d (omega (arith, below)) in omega arith

pub read_symbol : (blocks : List ℕ) (s : ℕ) → s < length blocks → read_by blocks s ≡ block_of blocks s
read_symbol blocks s below = get_or_default blocks s (block_count blocks) 0 below

pub read_past : (blocks : List ℕ) (s : ℕ) → length blocks ≤ s → read_by blocks s ≡ block_count blocks
read_past blocks s past = get_or_past blocks s (block_count blocks) past

pub read_below : (blocks : List ℕ) (s : ℕ) → s < length blocks → read_by blocks s < block_count blocks
read_below blocks s below = within_count blocks s (block_count blocks) below

-- only a symbol has a letter
pub is_symbol : (blocks : List ℕ) (s : ℕ) → read_by blocks s < block_count blocks → s < length blocks
is_symbol blocks s letter =
    elim (cases_lt s (length blocks)) [
      | inl below ↦ below
      | inr past ↦ absurd (omega (arith, letter, read_past blocks s past))
    ]

pub is_symbol_of : (blocks : List ℕ) (set : List Bool) (s : ℕ) → length set ≡ block_count blocks → has set (read_by blocks s) ≡ true → s < length blocks
is_symbol_of blocks set s size among =
    let letter : read_by blocks s < length set = has_below set (read_by blocks s) among in
    is_symbol blocks s (omega (arith, letter, size))

some_block_from : (blocks : List ℕ) (k : ℕ) → k < block_count blocks → (s : ℕ) × (s < length blocks) × (k ≤ get_or blocks s 0)
unfolding block_count
some_block_from [] k below = absurd (omega arith)
some_block_from (b ∷ others) k below =
    elim (cases_lt k (b + 1)) [
      | inl first ↦ (0, omega arith, omega arith)
      | inr rest ↦ let found = some_block_from others k (omega arith) in (suc found.0, omega (arith, found.1), found.2)
    ]

-- each letter is the letter of a symbol
pub covered : (blocks : List ℕ) → IsPartition blocks → Covers (read_by blocks) (block_count blocks)
covered blocks is k below =
    let found = some_block_from blocks k below in
    elim (cases_lt k (block_of blocks found.0)) [
      | inl less ↦
          let earlier = is.by_least found.0 k found.1 less in
          (earlier.0, read_symbol blocks earlier.0 (omega (arith, earlier.1, found.1)) ∙ earlier.2)
      | inr same ↦ (found.0, read_symbol blocks found.0 found.1 ∙ omega (arith, found.2, same))
    ]
