-- An automaton as it is built, with a bound on its edges and silent steps.
use Rattle.std.specs.Prelude.{ℕ}
use Rattle.rela_letter_nfa.specs.LetterAutomaton.{LetterParts}
use Rattle.rela_letter_nfa.specs.declared.edge.LetterEdge.{LetterEdge}

-- what was built, and how many edges and silent steps may still be added
pub record CountedParts : Type 0 where
  pub parts : LetterParts
  pub room : ℕ

abbrev pub edge_to : ℕ → ℕ → LetterEdge
edge_to k q = record { letter = k; to = q }
