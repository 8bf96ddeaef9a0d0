-- Sets of places, and what rows of places lead to. A set is listed in any order.
use Rattle.std.specs.Prelude.{◌≡◌, ℕ, ◌<◌, ◌⊎◌, ◌↔◌, Bool, false, true, MatchBool, List, [], ◌∷◌, length, slice_index_or}
use Rattle.std.specs.List.{All}

-- the place is in the set
abbrev pub Has : List ℕ → ℕ → Type 0
Has [] i = ⊥
Has (j ∷ places) i = (i ≡ j) ⊎ Has places i

-- the place has a mark
abbrev pub IsMarked : List Bool → ℕ → Type 0
IsMarked marks i = slice_index_or marks i false ≡ true

-- the places are below the bound
abbrev pub AreBelow : ℕ → List ℕ → Type 0
AreBelow bound places = All (λ i. i < bound) places

-- the places of each set are below the bound
abbrev pub AllBelow : ℕ → List (List ℕ) → Type 0
AllBelow bound sets = (k : ℕ) → k < length sets → AreBelow bound (slice_index_or sets k [])

-- the row of place i has place j
abbrev pub Leads : List (List ℕ) → ℕ → ℕ → Type 0
Leads rows i j = Has (slice_index_or rows i []) j

-- the rows lead from place i by way of the stops, in turn, to place j
abbrev pub Chain : List (List ℕ) → ℕ → List ℕ → ℕ → Type 0
Chain rows i [] j = i ≡ j
Chain rows i (stop ∷ stops) j = Leads rows i stop × Chain rows stop stops j

-- the places of both sets
pub record AreJoined (bound : ℕ) (first second all : List ℕ) : Type 0 where
  pub below : AreBelow bound all
  pub has : (i : ℕ) → Has all i ↔ (Has first i ⊎ Has second i)

-- the places of the first set that are in the second, or those that are not
pub record AreKept (bound : ℕ) (common : Bool) (first second kept : List ℕ) : Type 0 where
  pub below : AreBelow bound kept
  pub has : (i : ℕ) → Has kept i
      ↔ (Has first i × MatchBool common (Has second i) (¬ Has second i))

-- the places that the rows lead to from places of the set
pub record AreNext (rows : List (List ℕ)) (from to : List ℕ) : Type 0 where
  pub below : AreBelow (length rows) to
  pub has : (j : ℕ) → Has to j ↔ ((i : ℕ) × Has from i × Leads rows i j)

-- the places that the rows lead to from places of the set in any number of steps
pub record AreReached (rows : List (List ℕ)) (from to : List ℕ) : Type 0 where
  pub below : AreBelow (length rows) to
  pub has : (j : ℕ) → Has to j ↔ ((i : ℕ) × (stops : List ℕ) × Has from i × Chain rows i stops j)

-- R holds of the sets of two lists, place by place
pub record Each (R : List ℕ → List ℕ → Type 0) (from to : List (List ℕ)) : Type 0 where
  pub long : length to ≡ length from
  pub at : (k : ℕ) → k < length from → R (slice_index_or from k []) (slice_index_or to k [])

-- R holds of the sets of three lists, place by place
pub record EachOfTwo (R : List ℕ → List ℕ → List ℕ → Type 0)
    (first second to : List (List ℕ)) : Type 0 where
  pub long : length to ≡ length first
  pub at : (k : ℕ) → k < length first →
      R (slice_index_or first k []) (slice_index_or second k []) (slice_index_or to k [])
