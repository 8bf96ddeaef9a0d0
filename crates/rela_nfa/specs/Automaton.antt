-- A finite automaton as data. Its states are numbered from 0, and so are the letters that it reads.
use Rattle.std.specs.Prelude.{◌≡◌, ℕ, ◌<◌, Bool, false, IsTrue, List, [], length, Option, slice_index_or}
use Rattle.std.specs.Option.{ForSome}
use Rattle.std.specs.List.{All}

-- an edge: the set of letters by which it may be taken, one boolean for each letter, or no label where
-- it is silent; and the state to which it leads
pub record Move : Type 0 where
  pub label : Option (List Bool)
  pub to : ℕ

-- the number of letters, the start, and for each state whether it is final and which edges leave it
pub record Automaton : Type 0 where
  pub letters : ℕ
  pub start : ℕ
  pub finals : List Bool
  pub edges : List (List Move)

-- the number of states
abbrev pub states : Automaton → ℕ
states a = length a.finals

-- the edges that leave the state; none leave a number that is no state
abbrev pub moves_of : Automaton → ℕ → List Move
moves_of a q = slice_index_or a.edges q []

-- no number that is no state is final
abbrev pub IsFinal : Automaton → ℕ → Type 0
IsFinal a q = IsTrue (slice_index_or a.finals q false)

-- a label has one boolean for each letter, and the edge leads to a state
pub record IsMove (letters states : ℕ) (move : Move) : Type 0 where
  pub sized : ForSome move.label (λ set. length set ≡ letters)
  pub leads : move.to < states

-- one list of edges for each state, the start a state, and each edge one of this automaton's
pub record IsAutomaton (a : Automaton) : Type 0 where
  pub each : length a.edges ≡ length a.finals
  pub starts : a.start < length a.finals
  pub moves : All (All (IsMove a.letters (length a.finals))) a.edges
