-- A finite automaton with one letter on each edge, as data. Its states are numbered from 0, and so are letters.
use Rattle.std.specs.Prelude.{◌≡◌, ℕ, ◌<◌, Bool, false, IsTrue, List, [], ◌∷◌, ◌++◌, length, slice_index_or}
use Rattle.std.specs.List.{All}
use Rattle.rela_letter_nfa.specs.declared.edge.LetterEdge.{LetterEdge}

-- the start, and for each state whether it is final, to which states it goes silently, and its edges
pub record LetterAutomaton : Type 0 where
  pub start : ℕ
  pub finals : List Bool
  pub silents : List (List ℕ)
  pub edges : List (List LetterEdge)

-- the number of states
abbrev pub states : LetterAutomaton → ℕ
states a = length a.finals

-- the states to which the state goes silently
abbrev pub silents_of : LetterAutomaton → ℕ → List ℕ
silents_of a q = slice_index_or a.silents q []

-- the edges that leave the state
abbrev pub edges_of : LetterAutomaton → ℕ → List LetterEdge
edges_of a q = slice_index_or a.edges q []

-- no number that is no state is final
abbrev pub IsFinal : LetterAutomaton → ℕ → Type 0
IsFinal a q = IsTrue (slice_index_or a.finals q false)

-- each target is one of so many states
abbrev pub AreSilentsOf : ℕ → List (List ℕ) → Type 0
AreSilentsOf states silents = All (All (λ q. q < states)) silents

-- each edge leads to one of so many states
abbrev pub AreEdgesOf : ℕ → List (List LetterEdge) → Type 0
AreEdgesOf states edges = All (All (λ edge. edge.to < states)) edges

-- one list of each kind for each state, and the start and all targets are states
pub record IsLetterAutomaton (a : LetterAutomaton) : Type 0 where
  pub starts : a.start < length a.finals
  pub each_silents : length a.silents ≡ length a.finals
  pub each_edges : length a.edges ≡ length a.finals
  pub silents : AreSilentsOf (length a.finals) a.silents
  pub edges : AreEdgesOf (length a.finals) a.edges

-- the states that have been ended, and what the next one has so far
pub record LetterParts : Type 0 where
  pub finals : List Bool
  pub silents : List (List ℕ)
  pub edges : List (List LetterEdge)
  pub next_silents : List ℕ
  pub next_edges : List LetterEdge

abbrev pub no_parts : LetterParts
no_parts = record { finals = []; silents = []; edges = []; next_silents = []; next_edges = [] }

-- the next state goes silently to one more
abbrev pub with_silent : LetterParts → ℕ → LetterParts
with_silent parts to = record {
  finals = parts.finals;
  silents = parts.silents;
  edges = parts.edges;
  next_silents = parts.next_silents ++ to ∷ [];
  next_edges = parts.next_edges;
}

-- the next state has one more edge
abbrev pub with_edge : LetterParts → LetterEdge → LetterParts
with_edge parts edge = record {
  finals = parts.finals;
  silents = parts.silents;
  edges = parts.edges;
  next_silents = parts.next_silents;
  next_edges = parts.next_edges ++ edge ∷ [];
}

-- the next state is ended, and behind it another one begins, which has nothing
abbrev pub with_state : LetterParts → Bool → LetterParts
with_state parts is_final = record {
  finals = parts.finals ++ is_final ∷ [];
  silents = parts.silents ++ parts.next_silents ∷ [];
  edges = parts.edges ++ parts.next_edges ∷ [];
  next_silents = [];
  next_edges = [];
}

-- the automaton of the states that have been ended
abbrev pub from_parts : LetterParts → ℕ → LetterAutomaton
from_parts parts start = record {
  start = start;
  finals = parts.finals;
  silents = parts.silents;
  edges = parts.edges;
}
