-- What an automaton and a transducer that reads its words do together.
use Rattle.std.specs.Prelude.{ℕ, ◌&&◌, Bool, false, List, [], ◌∷◌, ◌++◌, map, Option, None, Some, length, slice_index_or}
use Rattle.std.specs.List.{flat_map, range_with_len}
use Rattle.rela_pairs.specs.Exploration.{Exploration}
use Rattle.rela_pairs.specs.declared.pair.Pair.{Pair}
use Rattle.rela_nfa.specs.Automaton.{Automaton, Move as Edge, moves_of as edges_of}
use Rattle.rela_nfa.specs.Directing.{Label, silent_labels}
use Rattle.rela_nfa.specs.Meeting.{pair_of}
use Rattle.rela_trans.specs.Composition.{first_alone, second_alone, both_by_letter, made, second_moves, product_moves_at, final_both}
use Rattle.rela_trans.specs.Machine.{Machine, Kind, moves_of}
use Rattle.rela_trans.specs.Tapes.{lifted_kind, lifted_machine}
use Rattle.rela_trans.specs.declared.joint.JointMove.{JointMove}
use Rattle.rela_trans.specs.declared.moves.Move.{Move}
use Rattle.rela_trans.specs.declared.moves.MoveKind.TheVariants.{Silent, In, Out, Same}
use Rattle.rela_trans.specs.declared.tapes.Tape.TheVariants.{Both}

-- the automaton as the transducer of its words with themselves
abbrev pub source_of : Automaton → Machine
source_of a = lifted_machine Both a

-- what the automaton does alone by an edge of this label
abbrev pub source_alone : Label → Option Kind
source_alone label = first_alone (lifted_kind Both label)

-- what both do by a letter that the edge of this label reads, and the transducer by a move of this kind, where there is one
abbrev pub read_by : Label → Kind → Option Kind
read_by label kind = both_by_letter (lifted_kind Both label) kind

abbrev pub source_moves : ℕ → List Edge → List (JointMove (List Bool))
source_moves right edges = flat_map (λ m. made (source_alone m.label) (pair_of m.to right)) edges

abbrev pub read_moves : Edge → List (Move (List Bool)) → List (JointMove (List Bool))
read_moves m moves = flat_map (λ n. made (read_by m.label n.kind) (pair_of m.to n.to)) moves

-- the moves of the two that leave a pair
abbrev pub image_moves : Automaton → Machine → Pair → List (JointMove (List Bool))
image_moves a t x = source_moves x.right (edges_of a x.left)
    ++ second_moves x.left (moves_of t x.right) ++ flat_map (λ m. read_moves m (moves_of t x.right))
    (edges_of a x.left)

-- the label by what a move of this kind writes
abbrev pub written_label : Kind → Label
written_label Silent = None
written_label (In set) = None
written_label (Out set) = Some set
written_label (Same set) = Some set

abbrev pub written_labels : Option Kind → List Label
written_labels None = []
written_labels (Some kind) = written_label kind ∷ []

abbrev pub alone_labels : List (Move (List Bool)) → List Label
alone_labels moves = flat_map (λ n. written_labels (second_alone n.kind)) moves

abbrev pub read_labels : Label → List (Move (List Bool)) → List Label
read_labels label moves = flat_map (λ n. written_labels (read_by label n.kind)) moves

-- the labels by what the moves write that leave a pair
abbrev pub image_labels : Automaton → Machine → Pair → List Label
image_labels a t x = silent_labels (edges_of a x.left) ++ alone_labels (moves_of t x.right)
    ++ flat_map (λ m. read_labels m.label (moves_of t x.right)) (edges_of a x.left)

-- whether both states are final
abbrev pub final_image : Automaton → Machine → Pair → Bool
final_image a t x = slice_index_or a.finals x.left false && slice_index_or t.finals x.right false

-- the two one after the other, with the pairs that were explored as states
abbrev pub product_of : Machine → Machine → Exploration → Machine
product_of a b explored = record {
  letters = a.letters;
  start = 0;
  finals = map (final_both a b) explored.pairs;
  moves = map (product_moves_at a b explored) (range_with_len 0 (length explored.pairs));
}
