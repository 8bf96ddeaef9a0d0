-- For each state a list of states.
use Rattle.std.specs.Prelude.{ℕ, ◌<◌, List, [], length, map, slice_index_or}
use Rattle.std.specs.List.{All, Contains}
use Rattle.std.specs.declared.vec.Vec.{Vec}

-- q is on the list of p
abbrev pub IsLinked : List (List ℕ) → ℕ → ℕ → Type 0
IsLinked links p q = Contains (slice_index_or links p []) q

-- each list, as numbers
abbrev pub lists_of : {A : Type 0} → List (Vec ℕ A) → List (List ℕ)
lists_of lists = map (λ v. v.items) lists

-- the lists are of states alone
abbrev pub AreLinks : List (List ℕ) → Type 0
AreLinks links = All (All (λ q. q < length links)) links
