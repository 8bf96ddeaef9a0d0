-- How a word is read by the set of states that it reaches.
use Rattle.std.specs.Prelude.{◌≡◌, ℕ, ◌↔◌, Bool, true, false, List, [], Option, None, Some, Contains}
use Rattle.rela_labels.specs.Letters.{has}
use Rattle.rela_nfa.specs.Automaton.{Automaton}
use Rattle.rela_nfa.specs.Runs.{Step, HasStep, Follow, Reach, spelled}

-- whether an edge with the label may be taken by the letter, or silently
abbrev pub takes : Option (List Bool) → Option ℕ → Bool
takes None None = true
takes None (Some k) = false
takes (Some set) None = false
takes (Some set) (Some k) = has set k

-- the states are just those that the word reaches
abbrev pub AreReached : Automaton → List ℕ → List ℕ → Type 0
AreReached a word states = (q : ℕ) → Contains states q ↔ Reach a q word

-- silent edges lead from p to q
abbrev pub Silently : Automaton → ℕ → ℕ → Type 0
Silently a p q = (steps : List Step) × Follow a p steps q × (spelled steps ≡ [])

-- silent edges lead from one of the states to q
abbrev pub SilentlyFrom : Automaton → List ℕ → ℕ → Type 0
SilentlyFrom a starts q = (p : ℕ) × Contains starts p × Silently a p q

-- silent edges lead from the states to none but themselves
abbrev pub IsClosed : Automaton → List ℕ → Type 0
IsClosed a states = (p q : ℕ) → Contains states p → HasStep a p None q → Contains states q

-- new has what old has, is closed, and has only what is reached by each word that reaches all of old
pub record Closes (a : Automaton) (old new : List ℕ) : Type 0 where
  pub kept : (q : ℕ) → Contains old q → Contains new q
  pub closed : IsClosed a new
  pub only : (word : List ℕ) → ((q : ℕ) → Contains old q → Reach a q word) → (q : ℕ) →
      Contains new q → Reach a q word
