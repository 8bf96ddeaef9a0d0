-- Sets of the states of an automaton.
use Rattle.std.specs.Prelude.{◌≢◌, ℕ, ◌<◌, List, [], length, slice_index_or, Contains, Some}
use Rattle.rela_nfa.specs.Automaton.{Automaton, IsFinal}
use Rattle.rela_nfa.specs.Reading.{Silently}
use Rattle.rela_nfa.specs.Runs.{HasStep, Reach}

-- an edge by the letter leads from one of the states to q
abbrev pub StepFrom : Automaton → List ℕ → ℕ → ℕ → Type 0
StepFrom a set letter q = (p : ℕ) × Contains set p × HasStep a p (Some letter) q

-- an edge by the letter and then silent edges lead from one of the states to q
abbrev pub NextFrom : Automaton → List ℕ → ℕ → ℕ → Type 0
NextFrom a set letter q = (p : ℕ) × StepFrom a set letter p × Silently a p q

-- the word reaches q
abbrev pub ReachedBy : Automaton → List ℕ → ℕ → Type 0
ReachedBy a word q = Reach a q word

-- a state of the set is final
abbrev pub HasFinal : Automaton → List ℕ → Type 0
HasFinal a set = (q : ℕ) × Contains set q × IsFinal a q

-- no set stands twice
abbrev pub AreDistinct : List (List ℕ) → Type 0
AreDistinct sets = (i j : ℕ) → i < j → j < length sets → slice_index_or sets i []
    ≢ slice_index_or sets j []
