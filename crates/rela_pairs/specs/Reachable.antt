-- What is reached from a start by going on to one of the next again and again.
use Rattle.std.specs.Prelude.{◌≡◌, ◌≢◌, ℕ, ◌+◌, List, [], ◌∷◌, length, AllPairs}
use Rattle.std.specs.List.{All, Contains}

-- each of the list is one of the next of the one before; it leads from x to y
abbrev pub Leads : {X : Type 0} → (X → List X) → X → List X → X → Type 0
Leads next x [] y = x ≡ y
Leads next x (z ∷ rest) y = Contains (next x) z × Leads next z rest y

-- some list leads from the start to x
abbrev pub Reachable : {X : Type 0} → (X → List X) → X → X → Type 0
Reachable {X} next start x = (path : List X) × Leads next start path x

-- no two of the list are equal
abbrev pub AreDistinct : {X : Type 0} → List X → Type 0
AreDistinct xs = AllPairs ◌≢◌ xs

-- more than `limit` have the property: there are limit + 1 of them, no two of which are equal
pub record MoreThan {X : Type 0} (limit : ℕ) (P : X → Type 0) : Type 0 where
  pub some : List X
  pub distinct : AreDistinct some
  pub each : All P some
  pub count : length some ≡ limit + 1
