-- The reachable pairs in the order in which they were found, and what follows each.
use Rattle.std.specs.Prelude.{◌≡◌, ℕ, ◌<◌, List, [], map, Some, Contains, slice_get, slice_index_or}
use Rattle.rela_pairs.specs.declared.pair.Pair.{Pair}

-- the pairs, and for each the numbers of its next ones
pub record Exploration : Type 0 where
  pub pairs : List Pair
  pub targets : List (List ℕ)

-- the numbers of each pair are those of its next ones, in their order
abbrev pub NumbersNext : (Pair → List Pair) → Exploration → Type 0
NumbersNext next e =
    (k : ℕ) (x : Pair) → slice_get e.pairs k ≡ Some x →
    map (slice_get e.pairs) (slice_index_or e.targets k []) ≡ map Some (next x)

-- each pair but the first is one of the next of an earlier one
abbrev pub FoundEarlier : (Pair → List Pair) → Exploration → Type 0
FoundEarlier next e =
    (k : ℕ) (x : Pair) → 0 < k → slice_get e.pairs k ≡ Some x → (j : ℕ) × (y : Pair) × (j < k)
    × (slice_get e.pairs j ≡ Some y) × Contains (next y) x
