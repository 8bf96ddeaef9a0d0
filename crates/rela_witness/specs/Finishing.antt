-- How few letters lead from a state to a final one.
use Rattle.std.specs.Prelude.{◌≡◌, ℕ, ◌≤◌, List, length, Option, Some, Contains}
use Rattle.rela_nfa.specs.Automaton.{Automaton, IsFinal}
use Rattle.rela_nfa.specs.Runs.{Step, HasStep, Follow, spelled}
use Rattle.rela_witness.specs.Numbered.{number_of}

-- the word leads from p to some final state
abbrev pub AcceptsFrom : Automaton → ℕ → List ℕ → Type 0
AcceptsFrom a p word = (q : ℕ) × ((steps : List Step) × Follow a p steps q × (spelled steps ≡ word))
    × IsFinal a q

-- a word of n letters leads from p to some final state
abbrev pub Finishes : Automaton → ℕ → ℕ → Type 0
Finishes a p n = (word : List ℕ) × AcceptsFrom a p word × (length word ≡ n)

-- the number of each state is the least n by which it finishes, and those that never finish have none
pub record AreDistances (a : Automaton) (numbers : List (Option ℕ)) : Type 0 where
  pub finishes : (q n : ℕ) → number_of numbers q ≡ Some n → Finishes a q n
  pub least : (q n : ℕ) → Finishes a q n → (m : ℕ) × (number_of numbers q ≡ Some m) × (m ≤ n)

-- an edge leads from p to q by the letter, or silently where there is none, and q has the distance
abbrev pub LeadsTo : Automaton → List (Option ℕ) → ℕ → Option ℕ → ℕ → ℕ → Type 0
LeadsTo a distances distance letter p q = HasStep a p letter q
    × (number_of distances q ≡ Some distance)

-- the letter leads from one of the states to one of the distance
abbrev pub Continues : Automaton → List (Option ℕ) → ℕ → List ℕ → ℕ → Type 0
Continues a distances distance states letter = (p : ℕ) × Contains states p
    × ((q : ℕ) × LeadsTo a distances distance (Some letter) p q)
