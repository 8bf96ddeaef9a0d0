-- The sets of states that words reach.
use Rattle.std.specs.Prelude.{◌≡◌, ◌≢◌, ℕ, ◌<◌, ◌⊎◌, List, [], ◌∷◌, ◌++◌, length, slice_index_or, Contains}
use Rattle.rela_nfa.specs.Automaton.{Automaton, IsFinal}
use Rattle.rela_nfa.specs.Runs.{Reach}
use Rattle.rela_nfa.specs.StateSet.{Lists}

-- the word reaches q
abbrev pub ReachedBy : Automaton → List ℕ → ℕ → Type 0
ReachedBy a word q = Reach a q word

-- a state of the set is final
abbrev pub HasFinal : Automaton → List ℕ → Type 0
HasFinal a set = (q : ℕ) × Contains set q × IsFinal a q

-- for each automaton the states of it that the word reaches
abbrev pub AreReached : List Automaton → List ℕ → List (List ℕ) → Type 0
AreReached [] word sets = sets ≡ []
AreReached (a ∷ automata) word [] = ⊥
AreReached (a ∷ automata) word (set ∷ sets) = Lists (ReachedBy a word) set
    × AreReached automata word sets

-- some word reaches just these sets
abbrev pub AreMet : List Automaton → List (List ℕ) → Type 0
AreMet automata sets = (word : List ℕ) × AreReached automata word sets

-- where a word reaches these sets, the word with the letter behind it reaches the next ones
abbrev pub Leads : List Automaton → List (List ℕ) → ℕ → List (List ℕ) → Type 0
Leads automata sets letter next = (word : List ℕ) → AreReached automata word sets →
    AreReached automata (word ++ letter ∷ []) next

-- none of these stands twice
abbrev pub AreDistinct : List (List (List ℕ)) → Type 0
AreDistinct table = (i j : ℕ) → i < j → j < length table → slice_index_or table i []
    ≢ slice_index_or table j []

-- the sets have this number, and where they are new they were put behind the others
pub record AreNumbered (sets : List (List ℕ)) (old new : List (List (List ℕ)))
    (number : ℕ) : Type 0 where
  pub within : number < length new
  pub at : slice_index_or new number [] ≡ sets
  pub grown : ((new ≡ old) × (number < length old)) ⊎ ((new ≡ old ++ sets ∷ []) × (number ≡ length old))
