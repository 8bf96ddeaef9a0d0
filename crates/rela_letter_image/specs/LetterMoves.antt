-- The moves of a state, laid out by what they read, and the moves of a machine that they stand for.
use Rattle.std.specs.Prelude.{◌≡◌, ℕ, ◌<◌, ◌⊎◌, ◌↔◌, Bool, List, [], ◌∷◌, ◌++◌, Contains, length, map, nat_eq, Option, None, Some, if◌then◌else◌, slice_index_or}
use Rattle.std.specs.List.{All, range_with_len}
use Rattle.rela_trans.specs.Machine.{Machine, Kind, machine_states, moves_of}
use Rattle.rela_trans.specs.declared.moves.Move.{Move}
use Rattle.rela_trans.specs.declared.moves.MoveKind.TheVariants.{Silent, In, Out, Same}
use Rattle.rela_letter_image.specs.declared.letter_moves.AloneMove.{AloneMove}
use Rattle.rela_letter_image.specs.declared.letter_moves.LetterMove.{LetterMove}
use Rattle.rela_letter_image.specs.declared.letter_moves.SetMove.{SetMove}
use Rattle.rela_letter_image.specs.declared.letter_moves.StateMoves.{StateMoves}

-- the set of one letter, among so many
abbrev pub only_letter : ℕ → ℕ → List Bool
only_letter letters k = map (λ i. nat_eq k i) (range_with_len 0 letters)

-- it reads nothing, and writes a letter of the set, if there is one
abbrev pub writing : Option (List Bool) → Kind
writing None = Silent
writing (Some set) = Out set

-- it reads a letter of the set, and writes the same one, or nothing
abbrev pub reading : List Bool → Bool → Kind
reading set writes = if writes then Same set else In set

abbrev pub alone_move : AloneMove → Move (List Bool)
alone_move move = record { kind = writing move.written; to = move.to }

abbrev pub set_move : SetMove → Move (List Bool)
set_move move = record { kind = reading move.set move.writes; to = move.to }

abbrev pub letter_move : ℕ → LetterMove → Move (List Bool)
letter_move letters move = record { kind = reading (only_letter letters move.letter) move.writes; to = move.to }

-- the moves of a state, laid out by what they read
pub record Laid : Type 0 where
  pub alone : List AloneMove
  pub by_set : List SetMove
  pub by_letter : List LetterMove

abbrev pub laid : StateMoves → Laid
laid state = record { alone = state.alone.now; by_set = state.by_set.now; by_letter = state.by_letter.now }

abbrev pub none_laid : Laid
none_laid = record { alone = []; by_set = []; by_letter = [] }

-- one more move
abbrev pub with_alone : Laid → AloneMove → Laid
with_alone state move = record { alone = state.alone ++ move ∷ []; by_set = state.by_set; by_letter = state.by_letter }

abbrev pub with_set : Laid → SetMove → Laid
with_set state move = record { alone = state.alone; by_set = state.by_set ++ move ∷ []; by_letter = state.by_letter }

abbrev pub with_letter : Laid → LetterMove → Laid
with_letter state move = record { alone = state.alone; by_set = state.by_set; by_letter = state.by_letter ++ move ∷ [] }

-- the states whose moves of each kind stand in these lists
abbrev pub laid_side_by_side : List (List AloneMove) → List (List SetMove) → List (List LetterMove) → List Laid
laid_side_by_side [] sets letters = []
laid_side_by_side (alone ∷ alones) [] letters = []
laid_side_by_side (alone ∷ alones) (by_set ∷ sets) [] = []
laid_side_by_side (alone ∷ alones) (by_set ∷ sets) (by_letter ∷ letters) =
    record { alone = alone; by_set = by_set; by_letter = by_letter } ∷ laid_side_by_side alones sets letters

-- all moves of the state, of a machine with so many letters
abbrev pub all_moves : ℕ → Laid → List (Move (List Bool))
all_moves letters state = map alone_move state.alone ++ map set_move state.by_set
    ++ map (letter_move letters) state.by_letter

-- each letter is one of so many
abbrev pub AreLettersOf : ℕ → Laid → Type 0
AreLettersOf letters state = All (λ move. move.letter < letters) state.by_letter

-- each move leads to one of so many states
pub record LeadBelow (states : ℕ) (state : Laid) : Type 0 where
  pub alone : All (λ move. move.to < states) state.alone
  pub by_set : All (λ move. move.to < states) state.by_set
  pub by_letter : All (λ move. move.to < states) state.by_letter

-- the state has just these moves, in whatever order
pub record IsLaidOut (letters : ℕ) (moves : List (Move (List Bool))) (state : Laid) : Type 0 where
  pub same : (move : Move (List Bool)) → Contains (all_moves letters state) move ↔ Contains moves move
  pub below : AreLettersOf letters state

-- the open state, behind those that have been ended, has this move too
pub record Gains (letters : ℕ) (move : Move (List Bool)) (old new : List Laid × Laid) : Type 0 where
  pub ended : new.0 ≡ old.0
  pub same : (other : Move (List Bool)) →
      Contains (all_moves letters new.1) other ↔ (Contains (all_moves letters old.1) other ⊎ (move ≡ other))
  pub below : AreLettersOf letters old.1 → AreLettersOf letters new.1

-- it has these moves too
pub record GainsAll (letters : ℕ) (moves : List (Move (List Bool))) (old new : List Laid × Laid) : Type 0 where
  pub ended : new.0 ≡ old.0
  pub same : (other : Move (List Bool)) → Contains (all_moves letters new.1) other
      ↔ (Contains (all_moves letters old.1) other ⊎ Contains moves other)
  pub below : AreLettersOf letters old.1 → AreLettersOf letters new.1

-- each state has the moves of the machine's
pub record AreLaidOut (t : Machine) (states : List Laid) : Type 0 where
  pub each : length states ≡ machine_states t
  pub laid_out : (q : ℕ) (none : Laid) → q < machine_states t →
      IsLaidOut t.letters (moves_of t q) (slice_index_or states q none)
