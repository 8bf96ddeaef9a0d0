-- The edges out of a set of states, sorted out: those by one letter alone, and the others.
use Rattle.std.specs.Prelude.{◌≡◌, ℕ, ◌<◌, ◌⊎◌, ◌↔◌, Bool, true, List, None, Some, Contains}
use Rattle.std.specs.List.{All, flat_map}
use Rattle.std.specs.List.Sorted.{IsNonDecreasingBy}
use Rattle.rela_labels.specs.Letters.{has}
use Rattle.rela_nfa.specs.Automaton.{Automaton, IsAutomaton, IsMove, Move, moves_of, states}
use Rattle.rela_subset.specs.declared.letter_edge.LetterEdge.{LetterEdge}

-- the set has this letter and no other
abbrev pub IsAlone : List Bool → ℕ → Type 0
IsAlone set letter = (k : ℕ) → (has set k ≡ true) ↔ (k ≡ letter)

-- one of the edges leads to q by this letter
abbrev pub HasEnd : List LetterEdge → ℕ → ℕ → Type 0
HasEnd edges letter q = Contains edges (record { letter = letter; to = q })

-- the edges out of the states of the set
abbrev pub moves_from : Automaton → List ℕ → List Move
moves_from a set = flat_map (moves_of a) set

-- the edge's label is a letter alone, and the edge is among those by one letter
abbrev pub IsSingle : List LetterEdge → Move → Type 0
IsSingle singles move = (letter : ℕ) × (set : List Bool) × (move.label ≡ Some set)
    × IsAlone set letter × HasEnd singles letter move.to

-- those edges that are not silent, sorted out
pub record AreSortedOut (moves : List Move) (singles : List LetterEdge)
    (others : List Move) : Type 0 where
  pub each : (move : Move) → Contains moves move → (move.label ≡ None) ⊎ IsSingle singles move
      ⊎ Contains others move
  pub single : (letter q : ℕ) → HasEnd singles letter q → (set : List Bool) × IsAlone set letter
      × Contains moves (record { label = Some set; to = q })
  pub other : (move : Move) → Contains others move → Contains moves move

-- an automaton and edges of it: those by one letter, and others
pub record Sorted : Type 0 where
  pub automaton : Automaton
  pub singles : List LetterEdge
  pub others : List Move

-- edges of the automaton, those by one letter in ascending order of it
pub record AreHeld (a : Automaton) (singles : List LetterEdge) (others : List Move) : Type 0 where
  pub automaton : IsAutomaton a
  pub rising : IsNonDecreasingBy (λ edge. edge.letter) singles
  pub below : All (λ edge. edge.letter < a.letters) singles
  pub lead : All (λ edge. edge.to < states a) singles
  pub moves : All (IsMove a.letters (states a)) others
