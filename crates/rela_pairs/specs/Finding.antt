-- How the list of those that were found grows.
use Rattle.std.specs.Prelude.{◌≡◌, ℕ, ◌^◌, ◌<◌, ◌⊎◌, length, List, [], ◌∷◌, ◌++◌, map, Some, Contains, slice_get}
use Rattle.std.specs.List.{All}
use Rattle.rela_pairs.specs.Reachable.{AreDistinct}

-- new is old with x at the end, unless old has it
abbrev pub Finds : {X : Type 0} → List X → List X → X → Type 0
Finds old new x = Contains new x × ((new ≡ old) ⊎ (new ≡ old ++ x ∷ []))

-- new is old and then some of xs
abbrev pub GrowsBy : {X : Type 0} → List X → List X → List X → Type 0
GrowsBy {X} xs old new = (more : List X) × (new ≡ old ++ more) × All (Contains xs) more

-- the numbers are the places of xs
abbrev pub AreNumbers : {X : Type 0} → List X → List X → List ℕ → Type 0
AreNumbers found xs numbers = map (slice_get found) numbers ≡ map Some xs

-- to put in some of xs would pass the limit, which isn't the greatest number
pub record Passes {X : Type 0} (limit : ℕ) (xs old : List X) : Type 0 where
  pub more : List X
  pub grows : GrowsBy xs old more
  pub distinct : AreDistinct more
  pub past : limit < length more
  pub small : limit < 2 ^ 63
