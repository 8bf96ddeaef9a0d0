-- The sources of a word: the words of an automaton that a transducer relates to it.
use Rattle.std.specs.Prelude.{ℕ, List}
use Rattle.rela_letter_nfa.specs.LetterAutomaton.{LetterAutomaton}
use Rattle.rela_letter_nfa.specs.Runs.{Accepts}
use Rattle.rela_trans.specs.Machine.{Machine}
use Rattle.rela_trans.specs.Runs.{Relates}

-- the automaton accepts u, and the transducer, whose letters `read` gives, relates it to the word
abbrev pub IsSourceOf : (ℕ → ℕ) → LetterAutomaton → Machine → List ℕ → List ℕ → Type 0
IsSourceOf read a t word u = Accepts a u × Relates read t u word
