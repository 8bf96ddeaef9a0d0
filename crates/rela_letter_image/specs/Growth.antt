-- A product as it grows: the pairs that were found, and the states that were built of them.
use Rattle.std.specs.Prelude.{◌≡◌, ℕ, ◌⊎◌, ◌↔◌, Bool, IsTrue, List, [], ◌∷◌, ◌++◌, Option, None, Some, Contains, slice_get}
use Rattle.rela_pairs.specs.declared.pair.Pair.{Pair}
use Rattle.rela_pairs.specs.declared.shape.Shape.{Shape}
use Rattle.rela_letter_nfa.specs.declared.edge.LetterEdge.{LetterEdge}
use Rattle.rela_letter_nfa.specs.Counted.{edge_to}
use Rattle.rela_letter_nfa.specs.LetterAutomaton.{IsFinal, LetterAutomaton, LetterParts, with_state}
use Rattle.rela_trans.specs.Machine.{Machine, IsFinal as IsFinalMachine}
use Rattle.rela_letter_image.specs.Needs.{Told, IsLive}
use Rattle.rela_letter_image.specs.Steps.{JointStep, step_to, steps_from}

-- new is old, or old with the pair at the end
abbrev pub IsFoundIn : List Pair → List Pair → Pair → Type 0
IsFoundIn old new x = (new ≡ old) ⊎ (new ≡ old ++ x ∷ [])

-- how many states there are on each side, what is told of letters, the pairs by their numbers, and the automaton as
-- far as it is built
pub record Growth : Type 0 where
  pub shape : Shape
  pub told : Told
  pub pairs : List Pair
  pub parts : LetterParts

-- the same pairs, where this is built
abbrev pub with_parts : Growth → LetterParts → Growth
with_parts g parts = record { shape = g.shape; told = g.told; pairs = g.pairs; parts = parts }

-- one of the silent targets, or of the edges by the letter, is the state of this number
abbrev pub HasEnd : List ℕ → List LetterEdge → Option ℕ → ℕ → Type 0
HasEnd silents edges None q = Contains silents q
HasEnd silents edges (Some k) q = Contains edges (edge_to k q)

-- the targets and edges are steps, with the numbers of the pairs to which they lead, and each to a live pair is there
pub record Stand (told : Told) (pairs : List Pair) (steps : List JointStep) (silents : List ℕ)
    (edges : List LetterEdge) : Type 0 where
  pub only : (letter : Option ℕ) (q : ℕ) → HasEnd silents edges letter q →
      (y : Pair) × (slice_get pairs q ≡ Some y) × Contains steps (step_to letter y)
  pub all : (letter : Option ℕ) (y : Pair) → Contains steps (step_to letter y) → IsLive told y →
      (q : ℕ) × (slice_get pairs q ≡ Some y) × HasEnd silents edges letter q

-- the state that is next has these steps too; pairs may have been found besides
pub record Grows (steps : List JointStep) (old new : Growth) : Type 0 where
  pub shape : new.shape ≡ old.shape
  pub told : new.told ≡ old.told
  pub finals : new.parts.finals ≡ old.parts.finals
  pub silents : new.parts.silents ≡ old.parts.silents
  pub edges : new.parts.edges ≡ old.parts.edges
  pub found : (more : List Pair) × (new.pairs ≡ old.pairs ++ more)
  pub added : (silents : List ℕ) × (edges : List LetterEdge)
      × (new.parts.next_silents ≡ old.parts.next_silents ++ silents)
      × (new.parts.next_edges ≡ old.parts.next_edges ++ edges) × Stand old.told new.pairs steps silents edges

-- the state of the pair is built: it has the steps of the two from there, and is final where both are
pub record AddsState (coarse : List ℕ) (a : LetterAutomaton) (t : Machine) (x : Pair)
    (old new : Growth) : Type 0 where
  pub between : Growth
  pub is_final : Bool
  pub grows : Grows (steps_from coarse a t x) old between
  pub ended : new ≡ with_parts between (with_state between.parts is_final)
  pub final : IsTrue is_final ↔ (IsFinal a x.left × IsFinalMachine t x.right)
