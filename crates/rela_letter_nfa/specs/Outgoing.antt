-- The edges out of a set of states, in ascending order of their letters.
use Rattle.std.specs.Prelude.{◌≡◌, ℕ, ◌<◌, ◌≤◌, ◌⊎◌, List, [], ◌++◌, Contains}
use Rattle.std.specs.List.{All}
use Rattle.std.specs.List.Sorted.{IsNonDecreasingBy}
use Rattle.rela_letter_nfa.specs.LetterAutomaton.{LetterAutomaton}
use Rattle.rela_letter_nfa.specs.Sets.{Leads, StepFrom}
use Rattle.rela_letter_nfa.specs.declared.edge.LetterEdge.{LetterEdge}

-- one of the edges leads to q by this letter
abbrev pub HasEnd : List LetterEdge → ℕ → ℕ → Type 0
HasEnd edges letter q = Contains edges (record { letter = letter; to = q })

-- one of the edges leads to q by this letter, and silent steps after it
abbrev pub NextBy : LetterAutomaton → List LetterEdge → ℕ → ℕ → Type 0
NextBy a edges letter q = (p : ℕ) × HasEnd edges letter p × Leads a p [] q

-- those of the edges that are not of this letter, which is before all of theirs
pub record IsRest (letter : ℕ) (edges rest : List LetterEdge) : Type 0 where
  pub parted : (own : List LetterEdge) × (edges ≡ own ++ rest)
  pub rising : IsNonDecreasingBy (λ edge. edge.letter) rest
  pub past : All (λ edge. letter < edge.letter) rest
  pub among : (k q : ℕ) → HasEnd rest k q → HasEnd edges k q
  pub others : (k q : ℕ) → HasEnd edges k q → (k ≡ letter) ⊎ HasEnd rest k q

-- the edges out of the set by all letters from `bound` on
pub record AreComing (a : LetterAutomaton) (set : List ℕ) (bound : ℕ)
    (edges : List LetterEdge) : Type 0 where
  pub rising : IsNonDecreasingBy (λ edge. edge.letter) edges
  pub from_bound : All (λ edge. bound ≤ edge.letter) edges
  pub step : (k q : ℕ) → HasEnd edges k q → StepFrom a set k q
  pub all : (k q : ℕ) → bound ≤ k → StepFrom a set k q → HasEnd edges k q
