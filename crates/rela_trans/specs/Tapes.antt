-- A transducer that follows an automaton on one of its two tapes, or on both.
use Rattle.std.specs.Prelude.{◌≡◌, ℕ, Bool, List, [], map, Option, None, Some}
use Rattle.std.specs.List.{range_with_len}
use Rattle.rela_nfa.specs.Automaton.{Automaton, Move as Edge, moves_of as edges_of, states}
use Rattle.rela_trans.specs.Machine.{Machine, Kind}
use Rattle.rela_trans.specs.declared.moves.Move.{Move}
use Rattle.rela_trans.specs.declared.moves.MoveKind.TheVariants.{Silent, In, Out, Same}
use Rattle.rela_trans.specs.declared.tapes.Tape.{Tape}
use Rattle.rela_trans.specs.declared.tapes.Tape.TheVariants.{Input, Output, Both}

-- a letter of the set stands on the tape
abbrev pub kind_on : Tape → List Bool → Kind
kind_on Input set = In set
kind_on Output set = Out set
kind_on Both set = Same set

-- the letter by which an edge is taken stands on the tape
abbrev pub lifted_kind : Tape → Option (List Bool) → Kind
lifted_kind tape None = Silent
lifted_kind tape (Some set) = kind_on tape set

abbrev pub lifted : Tape → Edge → Move (List Bool)
lifted tape edge = record { kind = lifted_kind tape edge.label; to = edge.to }

-- the edges that leave the state as moves
abbrev pub lifted_at : Tape → Automaton → ℕ → List (Move (List Bool))
lifted_at tape a q = map (lifted tape) (edges_of a q)

-- the automaton as a transducer: the same states, each edge a move
abbrev pub lifted_machine : Tape → Automaton → Machine
lifted_machine tape a = record {
  letters = a.letters;
  start = a.start;
  finals = a.finals;
  moves = map (lifted_at tape a) (range_with_len 0 (states a));
}

-- a word with P stands on the tape: it is read, or written, or both, and nothing else is
abbrev pub OnTape : Tape → (List ℕ → Type 0) → List ℕ → List ℕ → Type 0
OnTape Input P u v = P u × (v ≡ [])
OnTape Output P u v = P v × (u ≡ [])
OnTape Both P u v = P u × (v ≡ u)
