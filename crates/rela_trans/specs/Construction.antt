-- How the moves of one transducer stand in another that is built of it.
use Rattle.std.specs.Prelude.{ℕ, ◌+◌, Bool, false, List, [], ◌++◌, map, Option, slice_index_or, if◌then◌else◌}
use Rattle.std.specs.Option.{option_to_list}
use Rattle.std.specs.List.{range_with_len}
use Rattle.rela_trans.specs.Machine.{Machine, Kind, moves_of, machine_states}
use Rattle.rela_trans.specs.declared.moves.Move.{Move}
use Rattle.rela_trans.specs.declared.moves.MoveKind.TheVariants.{Silent, In, Out, Same}

-- the move, its end `by` later
abbrev pub shifted : ℕ → Move (List Bool) → Move (List Bool)
shifted by move = record { kind = move.kind; to = by + move.to }

-- a silent move
abbrev pub silent : ℕ → Move (List Bool)
silent to = record { kind = Silent; to = to }

-- the moves that leave p, their ends `by` later, and where p is final a silent move to the exit
abbrev pub leaving : Machine → ℕ → Option ℕ → ℕ → List (Move (List Bool))
leaving t by exit p =
    map (shifted by) (moves_of t p) ++ (if slice_index_or t.finals p false
    then map silent (option_to_list exit) else [])

-- those of each state
abbrev pub copied : Machine → ℕ → Option ℕ → List (List (Move (List Bool)))
copied t by exit = map (leaving t by exit) (range_with_len 0 (machine_states t))

-- what it reads and what it writes exchanged
abbrev pub turned : Kind → Kind
turned Silent = Silent
turned (In set) = Out set
turned (Out set) = In set
turned (Same set) = Same set

abbrev pub turned_move : Move (List Bool) → Move (List Bool)
turned_move move = record { kind = turned move.kind; to = move.to }
