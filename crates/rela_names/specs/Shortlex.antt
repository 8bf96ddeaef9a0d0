-- The shortlex order on words, which are lists of symbol numbers.
use Rattle.std.specs.Prelude.{◌≡◌, ℕ, ◌<◌, ◌⊎◌, List, [], ◌∷◌, length}

-- smaller at the first place where the two differ
abbrev pub IsSmaller : List ℕ → List ℕ → Type 0
IsSmaller [] v = ⊥
IsSmaller (x ∷ u) [] = ⊥
IsSmaller (x ∷ u) (y ∷ v) = (x < y) ⊎ ((x ≡ y) × IsSmaller u v)

-- shorter, or of equal length and smaller
abbrev pub IsBefore : List ℕ → List ℕ → Type 0
IsBefore u v = (length u < length v) ⊎ ((length u ≡ length v) × IsSmaller u v)

-- w is in X, and no word of X is before w
pub record First (X : List ℕ → Type 0) (w : List ℕ) : Type 0 where
  pub member : X w
  pub least : (u : List ℕ) → X u → ¬ IsBefore u w
