-- The automaton of the acts of a transducer.
use Rattle.std.specs.Prelude.{ℕ, ◌+◌, ◌-◌, ◌&&◌, not, nat_lt, Bool, List, map, Option, None, Some}
use Rattle.std.specs.List.{range_with_len}
use Rattle.rela_labels.specs.Letters.{has}
use Rattle.rela_nfa.specs.Automaton.{Automaton, Move as Edge}
use Rattle.rela_trans.specs.Machine.{Machine, Kind, machine_states, moves_of}
use Rattle.rela_trans.specs.declared.moves.Move.{Move}
use Rattle.rela_trans.specs.declared.moves.MoveKind.TheVariants.{Silent, In, Out, Same}

-- the number of letters of acts
abbrev pub act_count : ℕ → ℕ
act_count n = n + (n + n)

-- whether the letter is one of the set, moved on by `by`
abbrev pub has_moved : ℕ → List Bool → ℕ → Bool
has_moved by set letter = not (nat_lt letter by) && has set (letter - by)

-- the set with each letter moved on by `by`, of letters below the size
abbrev pub moved : ℕ → ℕ → List Bool → List Bool
moved size by set = map (has_moved by set) (range_with_len 0 size)

-- the letters of the acts of a move of this kind, over n letters of symbols
abbrev pub act_label : ℕ → Kind → Option (List Bool)
act_label n Silent = None
act_label n (In set) = Some (moved (act_count n) 0 set)
act_label n (Out set) = Some (moved (act_count n) n set)
act_label n (Same set) = Some (moved (act_count n) (n + n) set)

abbrev pub act_edge : ℕ → Move (List Bool) → Edge
act_edge n move = record { label = act_label n move.kind; to = move.to }

-- the edges of a state
abbrev pub act_edges : Machine → ℕ → List Edge
act_edges t q = map (act_edge t.letters) (moves_of t q)

-- the same states, with an edge for each move
abbrev pub act_automaton : Machine → Automaton
act_automaton t = record {
  letters = act_count t.letters;
  start = t.start;
  finals = t.finals;
  edges = map (act_edges t) (range_with_len 0 (machine_states t));
}
