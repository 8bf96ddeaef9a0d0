-- The states from which moves lead on to a final state.
use Rattle.std.specs.Prelude.{ℕ, Bool, false, List, [], map, slice_index_or}
use Rattle.std.specs.List.{filter}
use Rattle.rela_pairs.specs.Reachable.{Reachable}
use Rattle.rela_trans.specs.Machine.{Machine, moves_of, IsFinal}
use Rattle.rela_trans.specs.declared.moves.Move.{Move}

-- the states to which the moves lead
abbrev pub ends_of : List (Move (List Bool)) → List ℕ
ends_of moves = map (λ move. move.to) moves

-- the states to which a move leads from the state
abbrev pub next_states : Machine → ℕ → List ℕ
next_states t p = ends_of (moves_of t p)

-- moves lead on from the state to a final one
abbrev pub LeadsOn : Machine → ℕ → Type 0
LeadsOn t p = (q : ℕ) × Reachable (next_states t) p q × IsFinal t q

-- the list of this number; a number past the last has none
abbrev pub list_at : List (List ℕ) → ℕ → List ℕ
list_at lists q = slice_index_or lists q []

-- of the moves, those that lead to a state whose flag is set
abbrev pub kept_by : List Bool → List (Move (List Bool)) → List (Move (List Bool))
kept_by flags moves = filter (λ move. slice_index_or flags move.to false) moves
