-- Lists that stand one behind the other in one list, by the places between them.
use Rattle.std.specs.Prelude.{ℕ, ◌-◌, ◌≤◌, List, [], ◌∷◌, take, drop}

-- what stands from one place up to another
abbrev pub part : {X : Type 0} → List X → ℕ → ℕ → List X
part xs from to = take (to - from) (drop from xs)

-- the list between each place and the next one
abbrev pub parts_between : {X : Type 0} → List X → List ℕ → List (List X)
parts_between xs [] = []
parts_between xs (from ∷ []) = []
parts_between xs (from ∷ to ∷ later) = part xs from to ∷ parts_between xs (to ∷ later)

-- what stands behind the last place
abbrev pub part_behind : {X : Type 0} → List X → List ℕ → List X
part_behind xs [] = xs
part_behind xs (from ∷ []) = drop from xs
part_behind xs (from ∷ to ∷ later) = part_behind xs (to ∷ later)

-- there is a place, none comes before an earlier one, and none lies past the end
abbrev pub ArePlaces : ℕ → List ℕ → Type 0
ArePlaces end [] = ⊥
ArePlaces end (from ∷ []) = from ≤ end
ArePlaces end (from ∷ to ∷ later) = (from ≤ to) × ArePlaces end (to ∷ later)
