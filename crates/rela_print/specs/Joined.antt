-- Texts in a row.
use Rattle.std.specs.Prelude.{ℕ, List, [], ◌∷◌, ◌++◌}

-- the texts of the items, each behind this one
unfoldable pub behind : {X : Type 0} → List ℕ → (X → List ℕ) → List X → List ℕ
behind between text [] = []
behind between text (x ∷ xs) = (between ++ text x) ++ behind between text xs

-- the texts of the items, with this one between two of them
unfoldable pub joined : {X : Type 0} → List ℕ → (X → List ℕ) → List X → List ℕ
joined between text [] = []
joined between text (x ∷ xs) = text x ++ behind between text xs
