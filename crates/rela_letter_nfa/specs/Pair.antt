-- Two automata as one, in which the states of the second stand behind those of the first.
use Rattle.std.specs.Prelude.{ℕ, ◌+◌, ◌≤◌, ◌^◌, ◌++◌, List, [], ◌∷◌, map, Contains}
use Rattle.rela_letter_nfa.specs.Differences.{IsSought}
use Rattle.rela_letter_nfa.specs.LetterAutomaton.{LetterAutomaton, IsFinal, IsLetterAutomaton, states}
use Rattle.rela_letter_nfa.specs.declared.difference.Sought.{Sought}
use Rattle.rela_letter_nfa.specs.declared.edge.LetterEdge.{LetterEdge}

pub record Pair : Type 0 where
  pub first : LetterAutomaton
  pub second : LetterAutomaton

-- both are automata, of few states
pub record ArePaired (pair : Pair) : Type 0 where
  pub first : IsLetterAutomaton pair.first
  pub second : IsLetterAutomaton pair.second
  pub first_few : states pair.first ≤ 2 ^ 31
  pub second_few : states pair.second ≤ 2 ^ 31

-- the edge, where so many states stand before the one to which it leads
abbrev pub edge_behind : ℕ → LetterEdge → LetterEdge
edge_behind before edge = record { letter = edge.letter; to = before + edge.to }

-- the states of both, with the start of the first
abbrev pub joined : Pair → LetterAutomaton
joined pair = record {
  start = pair.first.start;
  finals = pair.first.finals ++ pair.second.finals;
  silents = pair.first.silents ++ map (map (λ q. states pair.first + q)) pair.second.silents;
  edges = pair.first.edges ++ map (map (edge_behind (states pair.first))) pair.second.edges;
}

-- the two starts
abbrev pub starts_of : Pair → List ℕ
starts_of pair = pair.first.start ∷ (states pair.first + pair.second.start) ∷ []

-- a final state is in the set, where so many states stand before the automaton's own
abbrev pub HasFinalFrom : LetterAutomaton → ℕ → List ℕ → Type 0
HasFinalFrom a before set = (q : ℕ) × Contains set (before + q) × IsFinal a q

-- a word that reaches just these states is sought
abbrev pub IsSoughtSet : Sought → Pair → List ℕ → Type 0
IsSoughtSet sought pair set = IsSought sought (HasFinalFrom pair.first 0 set)
    (HasFinalFrom pair.second (states pair.first) set)
