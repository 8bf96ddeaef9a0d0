-- Words that reach the same states of an automaton, and words that are told apart by one.
use Rattle.std.specs.Prelude.{ℕ, ◌⊎◌, ◌↔◌, List}
use Rattle.rela_nfa.specs.Automaton.{Automaton}
use Rattle.rela_nfa.specs.Runs.{Reach}

-- both words reach the same states
abbrev pub ReachSame : Automaton → List ℕ → List ℕ → Type 0
ReachSame a v w = (q : ℕ) → Reach a q v ↔ Reach a q w

-- some state is reached by one of the two words alone
abbrev pub AreApart : Automaton → List ℕ → List ℕ → Type 0
AreApart a v w = (q : ℕ) × ((Reach a q v × ¬ Reach a q w) ⊎ (Reach a q w × ¬ Reach a q v))
