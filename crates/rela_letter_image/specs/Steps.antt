-- The steps by which an automaton and a transducer that reads its words leave a pair of states, as a list.
use Rattle.std.specs.Prelude.{ℕ, Bool, List, [], ◌∷◌, ◌++◌, map, nat_eq, Option, None, Some, if◌then◌else◌}
use Rattle.std.specs.List.{flat_map}
use Rattle.rela_labels.specs.Letters.{has}
use Rattle.rela_pairs.specs.declared.pair.Pair.{Pair}
use Rattle.rela_nfa.specs.Meeting.{pair_of}
use Rattle.rela_letter_image.specs.Coarse.{coarse_of, fine_letters}
use Rattle.rela_letter_nfa.specs.declared.edge.LetterEdge.{LetterEdge}
use Rattle.rela_letter_nfa.specs.LetterAutomaton.{LetterAutomaton, silents_of, edges_of}
use Rattle.rela_letter_image.specs.declared.letter_moves.LetterMove.{LetterMove}
use Rattle.rela_letter_image.specs.LetterMoves.{Laid, set_move}
use Rattle.rela_trans.specs.Machine.{Machine, Kind, moves_of}
use Rattle.rela_trans.specs.declared.moves.Move.{Move}
use Rattle.rela_trans.specs.declared.moves.MoveKind.TheVariants.{Silent, In, Out, Same}

-- a step of the two: the letter that is written, none where nothing is, and the pair to which it leads
pub record JointStep : Type 0 where
  pub letter : Option ℕ
  pub to : Pair

abbrev pub step_to : Option ℕ → Pair → JointStep
step_to letter to = record { letter = letter; to = to }

-- the step, if it can be taken
abbrev pub step_if : Bool → JointStep → List JointStep
step_if can step = if can then step ∷ [] else []

-- the automaton goes silently to these states
abbrev pub silent_steps : ℕ → List ℕ → List JointStep
silent_steps right ends = map (λ q. step_to None (pair_of q right)) ends

-- what the transducer does alone by a move of this kind
abbrev pub alone_by : List ℕ → Kind → Pair → List JointStep
alone_by coarse Silent to = step_to None to ∷ []
alone_by coarse (In set) to = []
alone_by coarse (Out set) to = map (λ k. step_to (Some k) to) (fine_letters coarse set)
alone_by coarse (Same set) to = []

-- what both do where the automaton goes by the letter k, whose coarse letter is c
abbrev pub read_by : ℕ → ℕ → Kind → Pair → List JointStep
read_by c k Silent to = []
read_by c k (In set) to = step_if (has set c) (step_to None to)
read_by c k (Out set) to = []
read_by c k (Same set) to = step_if (has set c) (step_to (Some k) to)

abbrev pub alone_steps : List ℕ → ℕ → List (Move (List Bool)) → List JointStep
alone_steps coarse left moves = flat_map (λ m. alone_by coarse m.kind (pair_of left m.to)) moves

abbrev pub read_steps : ℕ → LetterEdge → List (Move (List Bool)) → List JointStep
read_steps c edge moves = flat_map (λ m. read_by c edge.letter m.kind (pair_of edge.to m.to)) moves

-- the letter that is written where k is read
abbrev pub written_by : ℕ → Bool → Option ℕ
written_by k writes = if writes then Some k else None

-- what both do by moves each of which reads one letter
abbrev pub letter_steps : ℕ → LetterEdge → List LetterMove → List JointStep
letter_steps c edge moves = flat_map (λ m. step_if (nat_eq m.letter c)
    (step_to (written_by edge.letter m.writes) (pair_of edge.to m.to))) moves

-- what both do by the moves of a state
abbrev pub laid_out_steps : ℕ → LetterEdge → Laid → List JointStep
laid_out_steps c edge state = read_steps c edge (map set_move state.by_set)
    ++ letter_steps c edge state.by_letter

abbrev pub edge_steps : ℕ → List ℕ → List (Move (List Bool)) → List LetterEdge → List JointStep
edge_steps letters coarse moves edges = flat_map (λ e.
    read_steps (coarse_of letters coarse e.letter) e moves) edges

-- the steps of the two from a pair
abbrev pub steps_from : List ℕ → LetterAutomaton → Machine → Pair → List JointStep
steps_from coarse a t x =
    silent_steps x.right (silents_of a x.left) ++ alone_steps coarse x.left (moves_of t x.right)
    ++ edge_steps t.letters coarse (moves_of t x.right) (edges_of a x.left)
