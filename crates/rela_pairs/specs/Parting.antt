-- Lists that stand one behind the other in one list.
use Rattle.std.specs.Prelude.{ℕ, ◌-◌, ◌≤◌, ⊤, List, [], ◌∷◌, length, take, drop, slice_index_or}

-- what stands from one place up to another
abbrev pub part : {X : Type 0} → List X → ℕ → ℕ → List X
part xs from to = take (to - from) (drop from xs)

-- the lists that begin at these places: each ends where the next one begins, and the last at the end of all
abbrev pub parts : {X : Type 0} → List X → List ℕ → List (List X)
parts xs [] = []
parts xs (start ∷ starts) = part xs start (slice_index_or starts 0 (length xs)) ∷ parts xs starts

-- no list begins behind its end, which is one of the `end` places
abbrev pub Rises : ℕ → List ℕ → Type 0
Rises end [] = ⊤
Rises end (start ∷ starts) = (start ≤ slice_index_or starts 0 end) × Rises end starts
