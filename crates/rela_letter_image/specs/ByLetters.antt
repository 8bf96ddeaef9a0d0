-- An automaton with one letter on each edge that goes as one does whose edges have sets of letters.
use Rattle.std.specs.Prelude.{◌≡◌, ℕ, ◌↔◌, Bool, IsTrue, List, ◌++◌, Option}
use Rattle.rela_letter_nfa.specs.LetterAutomaton.{LetterAutomaton, LetterParts, IsFinal as IsFinalLetter, with_state}
use Rattle.rela_letter_nfa.specs.Runs.{HasStep as HasLetterStep}
use Rattle.rela_letter_nfa.specs.declared.edge.LetterEdge.{LetterEdge}
use Rattle.rela_nfa.specs.Automaton.{Automaton, Move, IsFinal, moves_of}
use Rattle.rela_nfa.specs.Runs.{HasStep, StepIn}
use Rattle.rela_letter_image.specs.Growth.{HasEnd}

-- the same start and final states, and the same steps
pub record IsByLetters (a : Automaton) (b : LetterAutomaton) : Type 0 where
  pub start : b.start ≡ a.start
  pub final : (p : ℕ) → IsFinalLetter b p ↔ IsFinal a p
  pub steps : (p q : ℕ) (letter : Option ℕ) → HasLetterStep b p letter q ↔ HasStep a p letter q

-- the silent targets and the edges by letters do what the moves do
abbrev pub AreSteps : List Move → List ℕ → List LetterEdge → Type 0
AreSteps moves silents edges = (letter : Option ℕ) (q : ℕ) →
    HasEnd silents edges letter q ↔ StepIn moves letter q

-- the state that is next does what the moves do too
pub record AddsMoves (moves : List Move) (old new : LetterParts) : Type 0 where
  pub finals : new.finals ≡ old.finals
  pub silents : new.silents ≡ old.silents
  pub edges : new.edges ≡ old.edges
  pub added : (silents : List ℕ) × (edges : List LetterEdge)
      × (new.next_silents ≡ old.next_silents ++ silents)
      × (new.next_edges ≡ old.next_edges ++ edges) × AreSteps moves silents edges

-- a state is built that does what the state p does
pub record AddsCopy (a : Automaton) (p : ℕ) (old new : LetterParts) : Type 0 where
  pub between : LetterParts
  pub is_final : Bool
  pub adds : AddsMoves (moves_of a p) old between
  pub ended : new ≡ with_state between is_final
  pub final : IsTrue is_final ↔ IsFinal a p
