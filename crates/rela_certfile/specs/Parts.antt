-- Lists that stand one behind the other in one list.
use Rattle.std.specs.Prelude.{ℕ, ◌+◌, List, [], ◌∷◌, length, slice_index_or}
use Rattle.std.specs.List.{flat_map, slice_range}

-- the elements of all lists, one list behind the other
abbrev pub joined : {X : Type 0} → List (List X) → List X
joined lists = flat_map (λ list. list) lists

-- where each list begins, if the first begins at this place
abbrev pub starts_of : {X : Type 0} → ℕ → List (List X) → List ℕ
starts_of from [] = []
starts_of from (list ∷ lists) = from ∷ starts_of (from + length list) lists

-- where the list of this number ends: where the next one begins, or else at the end of all
abbrev pub end_of : List ℕ → ℕ → ℕ → ℕ
end_of starts number all = slice_index_or starts (number + 1) all

-- the lists that begin at these places: each ends where the next one begins, and the last at the end of all
abbrev pub parts : {X : Type 0} → List X → List ℕ → List (List X)
parts all [] = []
parts all (start ∷ starts) =
    slice_range all start (slice_index_or starts 0 (length all)) ∷ parts all starts
