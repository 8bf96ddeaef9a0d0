-- The letters of an automaton, and the same automaton by other letters.
use Rattle.std.specs.Prelude.{ℕ, ◌<◌, map}
use Rattle.std.specs.List.{All}
use Rattle.rela_letter_nfa.specs.LetterAutomaton.{LetterAutomaton}
use Rattle.rela_letter_nfa.specs.declared.edge.LetterEdge.{LetterEdge}

-- each edge's letter is below n
abbrev pub HasLettersBelow : ℕ → LetterAutomaton → Type 0
HasLettersBelow n a = All (All (λ edge. edge.letter < n)) a.edges

-- the edge by the letter that is read for its own
abbrev pub renamed_edge : (ℕ → ℕ) → LetterEdge → LetterEdge
renamed_edge read edge = record { letter = read edge.letter; to = edge.to }

-- the same automaton, in which each edge is by the letter that is read for its own
abbrev pub renamed : (ℕ → ℕ) → LetterAutomaton → LetterAutomaton
renamed read a = record {
  start = a.start;
  finals = a.finals;
  silents = a.silents;
  edges = map (map (renamed_edge read)) a.edges;
}
