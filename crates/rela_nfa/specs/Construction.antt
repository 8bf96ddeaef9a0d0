-- How the edges of one automaton stand in another that is built of it.
use Rattle.std.specs.Prelude.{◌≡◌, ℕ, replicate, ◌+◌, ◌==◌, Bool, false, List, [], ◌∷◌, ◌++◌, length, map, Option, None, Some, slice_index_or, if◌then◌else◌}
use Rattle.std.specs.Option.{option_to_list}
use Rattle.std.specs.List.{All, range_with_len}
use Rattle.rela_nfa.specs.Automaton.{Automaton, Move, moves_of, states}

-- the edge, its end `by` later
abbrev pub shifted : ℕ → Move → Move
shifted by move = record { label = move.label; to = by + move.to }

-- a silent edge
abbrev pub silent : ℕ → Move
silent to = record { label = None; to = to }

-- the edges that leave p, their ends `by` later, and where p is final a silent edge to the exit
abbrev pub leaving : Automaton → ℕ → Option ℕ → ℕ → List Move
leaving a by exit p =
    map (shifted by) (moves_of a p) ++ (if slice_index_or a.finals p false
    then map silent (option_to_list exit) else [])

-- those of each state
abbrev pub copied : Automaton → ℕ → Option ℕ → List (List Move)
copied a by exit = map (leaving a by exit) (range_with_len 0 (states a))

-- the edges of a first state, which lead to both starts, and then those of each state of the two
abbrev pub united : Automaton → Automaton → List (List Move)
united a b = map silent ((1 + a.start) ∷ (1 + states a + b.start) ∷ []) ∷ copied a 1 None
    ++ copied b (1 + states a) None

-- the set of one letter
abbrev pub single : ℕ → ℕ → List Bool
single letters k = map (λ j. j == k) (range_with_len 0 letters)

-- an edge to the next state by a letter of the set at this place
abbrev pub link : List (List Bool) → ℕ → List Move
link sets i = record { label = Some (slice_index_or sets i []); to = i + 1 } ∷ []

-- an edge to the next state by a letter of this set
abbrev pub link_by : List Bool → ℕ → List Move
link_by set i = record { label = Some set; to = i + 1 } ∷ []

-- a state for each set, which leads to the next, and one more
abbrev pub links : List (List Bool) → List (List Move)
links sets = map (link sets) (range_with_len 0 (length sets)) ++ [] ∷ []

-- a state for each set, which leads to the next by a letter of it, and one more, which is final or not
pub record IsChain (sets : List (List Bool)) (final : Bool) (r : Automaton) : Type 0 where
  pub start : r.start ≡ 0
  pub edges : r.edges ≡ links sets
  pub finals : r.finals ≡ replicate (length sets) false ++ final ∷ []
  pub sized : All (λ set. length set ≡ r.letters) sets
