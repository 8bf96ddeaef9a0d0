-- A finite transducer as data. Its states are numbered from 0, and so are the letters that it reads and writes.
use Rattle.std.specs.Prelude.{◌≡◌, ℕ, ◌<◌, Bool, false, IsTrue, List, [], length, slice_index_or}
use Rattle.std.specs.List.{All}
use Rattle.rela_trans.specs.declared.moves.Move.{Move}
use Rattle.rela_trans.specs.declared.moves.MoveKind.{MoveKind}
use Rattle.rela_trans.specs.declared.moves.MoveKind.TheVariants.{Silent, In, Out, Same}

-- a kind of move, in which a set of letters has one boolean for each letter
abbrev pub Kind : Type 0
Kind = MoveKind (List Bool)

-- the number of letters, the start, and for each state whether it is final and which moves leave it
pub record Machine : Type 0 where
  pub letters : ℕ
  pub start : ℕ
  pub finals : List Bool
  pub moves : List (List (Move (List Bool)))

-- the number of states
abbrev pub machine_states : Machine → ℕ
machine_states t = length t.finals

-- the moves that leave the state; none leave a number that is no state
abbrev pub moves_of : Machine → ℕ → List (Move (List Bool))
moves_of t q = slice_index_or t.moves q []

-- no number that is no state is final
abbrev pub IsFinal : Machine → ℕ → Type 0
IsFinal t q = IsTrue (slice_index_or t.finals q false)

-- the set, where the move has one, has one boolean for each letter
abbrev pub IsSized : ℕ → Kind → Type 0
IsSized letters Silent = Unit {0}
IsSized letters (In set) = length set ≡ letters
IsSized letters (Out set) = length set ≡ letters
IsSized letters (Same set) = length set ≡ letters

-- a set has one boolean for each letter, and the move leads to a state
pub record IsMove (letters states : ℕ) (move : Move (List Bool)) : Type 0 where
  pub sized : IsSized letters move.kind
  pub leads : move.to < states

-- one list of moves for each state, the start a state, and each move one of this transducer's
pub record IsMachine (t : Machine) : Type 0 where
  pub each : length t.moves ≡ length t.finals
  pub starts : t.start < length t.finals
  pub moves : All (All (IsMove t.letters (length t.finals))) t.moves
