-- The steps by which an automaton and a transducer that reads its words, and writes a given one, go on, as a list.
use Rattle.std.specs.Prelude.{ℕ, ◌+◌, Bool, List, [], ◌∷◌, ◌++◌, map, nat_eq, Option, None, Some, if◌then◌else◌, slice_get}
use Rattle.std.specs.List.{flat_map}
use Rattle.rela_labels.specs.Letters.{has}
use Rattle.rela_letter_image.specs.Coarse.{coarse_of}
use Rattle.rela_letter_image.specs.LetterMoves.{Laid, set_move}
use Rattle.rela_letter_image.specs.declared.letter_moves.LetterMove.{LetterMove}
use Rattle.rela_letter_nfa.specs.declared.edge.LetterEdge.{LetterEdge}
use Rattle.rela_letter_nfa.specs.LetterAutomaton.{LetterAutomaton, silents_of, edges_of}
use Rattle.rela_trans.specs.Machine.{Machine, Kind, moves_of}
use Rattle.rela_trans.specs.declared.moves.Move.{Move}
use Rattle.rela_trans.specs.declared.moves.MoveKind.TheVariants.{Silent, In, Out, Same}
use Rattle.rela_letter_source.specs.declared.configuration.Configuration.{Configuration}
use Rattle.rela_letter_source.specs.declared.next.Next.{Next}
use Rattle.rela_letter_source.specs.declared.next.Reading.{Reading}

-- the states of the two, and how many letters have been written
abbrev pub standing : ℕ → ℕ → ℕ → Configuration
standing path machine written = record { path = path; machine = machine; written = written }

-- a step of the two: the letter that is read, none where nothing is, and where it leads
pub record JointStep : Type 0 where
  pub letter : Option ℕ
  pub to : Configuration

abbrev pub step_to : Option ℕ → Configuration → JointStep
step_to letter to = record { letter = letter; to = to }

-- the step, if it can be taken
abbrev pub step_if : Bool → JointStep → List JointStep
step_if can step = if can then step ∷ [] else []

-- ---- the word that is written

-- what is to be written, if there is a letter where n letters have been written
abbrev pub next_from : ℕ → List ℕ → ℕ → Option ℕ → Option Next
next_from letters coarse n None = None
next_from letters coarse n (Some k) =
    Some (record { letter = k; coarse = coarse_of letters coarse k; after = n + 1 })

-- the letter of the word that is to be written next
abbrev pub next_of : ℕ → List ℕ → List ℕ → ℕ → Option Next
next_of letters coarse word n = next_from letters coarse n (slice_get word n)

-- how many letters have been written after the letter k, if it is the next one
abbrev pub after_letter : Option Next → ℕ → Option ℕ
after_letter None k = None
after_letter (Some next) k = if nat_eq next.letter k then Some next.after else None

-- ---- what is done by a move

-- the automaton goes silently to these states
abbrev pub silent_steps : Configuration → List ℕ → List JointStep
silent_steps x ends = map (λ q. step_to None (standing q x.machine x.written)) ends

-- the next letter is written by a move with this set
abbrev pub write_by : Option Next → List Bool → ℕ → ℕ → List JointStep
write_by None set path to = []
write_by (Some next) set path to = step_if (has set next.coarse) (step_to None (standing path to next.after))

-- what the transducer does alone by a move of this kind
abbrev pub alone_by : Option Next → Configuration → Kind → ℕ → List JointStep
alone_by next x Silent to = step_to None (standing x.path to x.written) ∷ []
alone_by next x (In set) to = []
alone_by next x (Out set) to = write_by next set x.path to
alone_by next x (Same set) to = []

-- the letter that is read is written by a move with this set, if it is the next one
abbrev pub same_by : Option ℕ → Reading → List Bool → ℕ → List JointStep
same_by None reading set to = []
same_by (Some after) reading set to = step_if (has set reading.coarse)
    (step_to (Some reading.edge.letter) (standing reading.edge.to to after))

-- what both do by the edge and a move of this kind
abbrev pub read_by : Reading → Kind → ℕ → List JointStep
read_by reading Silent to = []
read_by reading (In set) to = step_if (has set reading.coarse)
    (step_to (Some reading.edge.letter) (standing reading.edge.to to reading.written))
read_by reading (Out set) to = []
read_by reading (Same set) to = same_by reading.after reading set to

-- how many letters have been written once the edge's letter is read, and written too if it is to be
abbrev pub after_read : Reading → Bool → Option ℕ
after_read reading writes = if writes then reading.after else Some reading.written

-- the edge's letter is read by a move to this state, where so many letters have been written then
abbrev pub read_to : Option ℕ → Reading → ℕ → List JointStep
read_to None reading to = []
read_to (Some after) reading to =
    step_to (Some reading.edge.letter) (standing reading.edge.to to after) ∷ []

-- what both do by the edge and a move to this state, if the move reads the edge's letter
abbrev pub read_if : Bool → Reading → Bool → ℕ → List JointStep
read_if is_read reading writes to =
    if is_read then read_to (after_read reading writes) reading to else []

-- ---- all steps

abbrev pub alone_steps : Option Next → Configuration → List (Move (List Bool)) → List JointStep
alone_steps next x moves = flat_map (λ m. alone_by next x m.kind m.to) moves

abbrev pub read_steps : Reading → List (Move (List Bool)) → List JointStep
read_steps reading moves = flat_map (λ m. read_by reading m.kind m.to) moves

-- what both do by the edge and moves each of which reads one letter
abbrev pub letter_steps : Reading → List LetterMove → List JointStep
letter_steps reading moves =
    flat_map (λ m. read_if (nat_eq m.letter reading.coarse) reading m.writes m.to) moves

-- what both do by the edge and the moves of a state
abbrev pub laid_out_steps : Reading → Laid → List JointStep
laid_out_steps reading state = read_steps reading (map set_move state.by_set)
    ++ letter_steps reading state.by_letter

-- the edge as it is read where n letters have been written
abbrev pub reading_of : ℕ → List ℕ → Option Next → ℕ → LetterEdge → Reading
reading_of letters coarse next n edge = record {
  edge = edge;
  coarse = coarse_of letters coarse edge.letter;
  written = n;
  after = after_letter next edge.letter;
}

abbrev pub edge_steps : ℕ → List ℕ → Option Next → ℕ → List (Move (List Bool)) →
    List LetterEdge → List JointStep
edge_steps letters coarse next n moves edges = flat_map (λ e.
    read_steps (reading_of letters coarse next n e) moves) edges

-- the steps of the two from a configuration, where this is to be written next
abbrev pub steps_by : Option Next → List ℕ → LetterAutomaton → Machine → Configuration → List JointStep
steps_by next coarse a t x =
    silent_steps x (silents_of a x.path) ++ alone_steps next x (moves_of t x.machine)
    ++ edge_steps t.letters coarse next x.written (moves_of t x.machine) (edges_of a x.path)

-- the steps of the two from a configuration
abbrev pub steps_from : List ℕ → List ℕ → LetterAutomaton → Machine → Configuration → List JointStep
steps_from coarse word a t x = steps_by (next_of t.letters coarse word x.written) coarse a t x
