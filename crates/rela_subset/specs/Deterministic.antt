-- A deterministic automaton as data, complete over the letters that it reads.
use Rattle.std.specs.Prelude.{◌≡◌, ℕ, ◌<◌, Bool, true, false, IsTrue, List, [], ◌∷◌, length, count_by, Option, None, Some, IsSome, unwrap_or, slice_index_or, if◌then◌else◌}
use Rattle.std.specs.List.{All}
use Rattle.std.specs.Option.{option_map_or}
use Rattle.rela_labels.specs.Letters.{has}
use Rattle.rela_names.specs.Shortlex.{IsBefore}
use Rattle.rela_nfa.specs.Automaton.{Automaton, Move, IsAutomaton}

-- the letters that are read, the start, and for each state whether it is final and which edges leave it
pub record Deterministic : Type 0 where
  pub over : List Bool
  pub start : ℕ
  pub finals : List Bool
  pub edges : List (List Move)

-- the same states and edges
abbrev pub automaton_of : Deterministic → Automaton
automaton_of d = record {
  letters = length d.over;
  start = d.start;
  finals = d.finals;
  edges = d.edges;
}

-- the number of states
abbrev pub states : Deterministic → ℕ
states d = length d.finals

-- the edges that leave the state
abbrev pub moves_of : Deterministic → ℕ → List Move
moves_of d q = slice_index_or d.edges q []

-- whether the letter is in the edge's label
abbrev pub takes : ℕ → Move → Bool
takes letter move = option_map_or (λ set. has set letter) move.label false

-- each letter of `over` is in the label of one edge, and no other letter in any
abbrev pub IsSplit : List Bool → List Move → Type 0
IsSplit over moves = (letter : ℕ) → count_by (takes letter) moves
    ≡ (if has over letter then 1 else 0)

-- an automaton of which no edge is silent, and each letter of `over` is in the label of one edge of each state
pub record IsDeterministic (d : Deterministic) : Type 0 where
  pub automaton : IsAutomaton (automaton_of d)
  pub labelled : All (All (λ move. IsSome move.label)) d.edges
  pub split : All (IsSplit d.over) d.edges

-- where the edge leads whose label has the letter
abbrev pub target : List Move → ℕ → Option ℕ
target [] letter = None
target (move ∷ others) letter = if takes letter move then Some move.to else target others letter

-- the state to which the letter leads
abbrev pub next : Deterministic → ℕ → ℕ → ℕ
next d q letter = unwrap_or (target (moves_of d q) letter) 0

-- the state to which the word leads from q
abbrev pub led_from : Deterministic → ℕ → List ℕ → ℕ
led_from d q [] = q
led_from d q (letter ∷ rest) = led_from d (next d q letter) rest

-- the state to which the word leads
abbrev pub state_after : Deterministic → List ℕ → ℕ
state_after d word = led_from d d.start word

-- a word of letters of the set
abbrev pub IsOver : List Bool → List ℕ → Type 0
IsOver over word = All (λ letter. has over letter ≡ true) word

-- no number that is no state is final
abbrev pub IsFinal : Deterministic → ℕ → Type 0
IsFinal d q = IsTrue (slice_index_or d.finals q false)

-- the word is over the letters that are read, and leads to a final state
abbrev pub IsAccepted : Deterministic → List ℕ → Type 0
IsAccepted d word = IsOver d.over word × IsFinal d (state_after d word)

-- the word leads to q
abbrev pub LeadsTo : Deterministic → ℕ → List ℕ → Type 0
LeadsTo d q word = IsOver d.over word × (state_after d word ≡ q)

-- each state is led to by some word
abbrev pub IsReachable : Deterministic → Type 0
IsReachable d = (q : ℕ) → q < states d → (word : List ℕ) × LeadsTo d q word

-- the states are numbered as words first arrive at them, in shortlex order
abbrev pub IsByArrival : Deterministic → Type 0
IsByArrival d = (p q : ℕ) (word : List ℕ) → p < q → LeadsTo d q word → (earlier : List ℕ)
    × LeadsTo d p earlier × IsBefore earlier word
