-- States of an automaton with numbered labels that others simulate.
use Rattle.std.specs.Prelude.{◌≡◌, ◌≢◌, ℕ, ◌<◌, ◌⊎◌, Bool, true, false, IsTrue, List, [], ◌∷◌, None, Some, MatchOption, All, Contains, slice_index_or}
use Rattle.rela_labels.specs.Letters.{has}
use Rattle.rela_reduce.specs.Bits.{HasBit}
use Rattle.rela_reduce.specs.Numbered.{Plain}
use Rattle.rela_reduce.specs.declared.arrow.Arrow.{Arrow}
use Rattle.rela_reduce.specs.declared.arrow.Step.{Step}
use Rattle.rela_reduce.specs.declared.ranking.Ranked.{Ranked}

-- the flag at this place is set, which none is past a row or past the rows
abbrev pub IsSet : List (List Bool) → ℕ → ℕ → Type 0
IsSet rows i j = IsTrue (slice_index_or (slice_index_or rows i []) j false)

abbrev pub arrows_of : List (List Arrow) → ℕ → List Arrow
arrows_of arrows q = slice_index_or arrows q []

-- silent arrows lead from p to each state of the list in turn, and at last to q
abbrev pub BySilent : List (List Arrow) → ℕ → List ℕ → ℕ → Type 0
BySilent arrows p [] q = p ≡ q
BySilent arrows p (r ∷ rest) q = Contains (arrows_of arrows p) (record { label = None; to = r })
    × BySilent arrows r rest q

-- silent arrows lead from p to q, which may be p
abbrev pub Silently : List (List Arrow) → ℕ → ℕ → Type 0
Silently arrows p q = (path : List ℕ) × BySilent arrows p path q

-- the step is by a labelled arrow of a state to which silent arrows lead from p
abbrev pub IsStepFrom : List (List Arrow) → ℕ → Step → Type 0
IsStepFrom arrows p step = (c : ℕ) × Silently arrows p c
    × Contains (arrows_of arrows c) (record { label = Some step.label; to = step.to })

-- each letter of the one label is in the other
abbrev pub IsWithin : List (List Bool) → ℕ → ℕ → Type 0
IsWithin labels k l = (letter : ℕ) → has (slice_index_or labels k []) letter ≡ true →
    has (slice_index_or labels l []) letter ≡ true

-- the flags are set for labels of which the one is within the other alone
abbrev pub AreWithin : List (List Bool) → List (List Bool) → Type 0
AreWithin labels flags = (k l : ℕ) → IsSet flags k l → IsWithin labels k l

-- one of the steps is by each letter of the label k, to a state that simulates t
pub record HasAnswer (within : List (List Bool)) (relation : List (List ℕ)) (steps : List Step)
    (k t : ℕ) : Type 0 where
  pub step : Step
  pub listed : Contains steps step
  pub label : IsSet within k step.label
  pub simulates : HasBit relation step.to t

-- the state p, which has these steps, can go along with the arrow: where that is silent, p simulates its end
abbrev pub IsAnswered : List (List Bool) → List (List ℕ) → ℕ → List Step → Arrow → Type 0
IsAnswered within relation p steps arrow =
    MatchOption arrow.label (HasBit relation p arrow.to) (λ k.
    HasAnswer within relation steps k arrow.to)

-- p can go along with each arrow of q, and where q is final silent arrows lead from p to a final state
pub record Simulates (labels : List (List Bool)) (n : Plain) (relation : List (List ℕ))
    (p q : ℕ) : Type 0 where
  pub final : IsTrue (slice_index_or n.finals q false) → (f : ℕ) × Silently n.arrows p f
      × IsTrue (slice_index_or n.finals f false)
  pub silent : (t : ℕ) → Contains (arrows_of n.arrows q) (record { label = None; to = t }) →
      HasBit relation p t
  pub labelled : (k t : ℕ) → Contains (arrows_of n.arrows q) (record { label = Some k; to = t })
      → (step : Step) × IsStepFrom n.arrows p step × IsWithin labels k step.label
      × HasBit relation step.to t

-- each state simulates those that are set for it
abbrev pub IsSimulation : List (List Bool) → Plain → List (List ℕ) → Type 0
IsSimulation labels n relation = (p q : ℕ) → HasBit relation p q → Simulates labels n relation p q

-- the arrow is a silent one to another state below n, which p simulates
pub record IsLowering (relation : List (List ℕ)) (n p : ℕ) (arrow : Arrow) : Type 0 where
  pub silent : arrow.label ≡ None
  pub other : arrow.to ≢ p
  pub state : arrow.to < n
  pub simulated : HasBit relation p arrow.to

-- the old arrows of the state p are among the new ones, and the others are silent ones to states that it simulates
pub record IsLowered (relation : List (List ℕ)) (n p : ℕ) (old new : List Arrow) : Type 0 where
  pub own : (arrow : Arrow) → Contains old arrow → Contains new arrow
  pub added : (arrow : Arrow) → Contains new arrow → Contains old arrow ⊎ IsLowering relation n p arrow

-- a silent one of the arrows leads to one of these states, which simulates q
abbrev pub IsCovered : List (List ℕ) → List Ranked → List Arrow → ℕ → Type 0
IsCovered relation ranked arrows q = (r : Ranked) × Contains ranked r
    × Contains arrows (record { label = None; to = r.state }) × HasBit relation r.state q

-- a silent one of the new arrows leads to each state that p simulates, or to an earlier one that simulates it
pub record AddsLower (relation : List (List ℕ)) (n p : ℕ) (earlier : List Ranked)
    (old new : List Arrow) : Type 0 where
  pub lowered : IsLowered relation n p old new
  pub leads : (q : ℕ) → q < n → HasBit relation p q → (p ≡ q)
      ⊎ (Contains new (record { label = None; to = q }) ⊎ IsCovered relation earlier new q)

-- the arrows of the states are lowered so that silent ones lead from each state to each that it simulates
pub record IsWidened (relation : List (List ℕ)) (n : ℕ) (old new : List (List Arrow)) : Type 0 where
  pub lowered : (p : ℕ) → IsLowered relation n p (arrows_of old p) (arrows_of new p)
  pub leads : (p q : ℕ) → p < n → q < n → HasBit relation p q → Silently new p q

-- the steps of each state are such as it may take, silently at first, and the flag is set of states from which silent
-- arrows lead to a final one
pub record AreClosed (n : Plain) (steps : List (List Step)) (finals : List Bool) : Type 0 where
  pub stepped : (p : ℕ) (step : Step) → Contains (slice_index_or steps p []) step →
      IsStepFrom n.arrows p step
  pub final : (p : ℕ) → IsTrue (slice_index_or finals p false) → (f : ℕ) × Silently n.arrows p f
      × IsTrue (slice_index_or n.finals f false)

-- by these steps and flags p can go along with q
pub record GoesAlong (n : Plain) (steps : List (List Step)) (finals : List Bool)
    (within : List (List Bool)) (relation : List (List ℕ)) (p q : ℕ) : Type 0 where
  pub final : IsTrue (slice_index_or n.finals q false) → IsTrue (slice_index_or finals p false)
  pub answered : All (IsAnswered within relation p (slice_index_or steps p []))
      (arrows_of n.arrows q)

-- the arrow of a state that p may simulate has its end in p's row where it is silent, and else in its label's row
abbrev pub IsInRow : List (List ℕ) → List (List ℕ) → ℕ → Arrow → Type 0
IsInRow relation answers p arrow =
    MatchOption arrow.label (HasBit relation p arrow.to) (λ k. HasBit answers k arrow.to)

-- by these rows of answers to arrows, and these flags, p can go along with q
pub record GoesByRows (n : Plain) (finals : List Bool) (relation answers : List (List ℕ))
    (p q : ℕ) : Type 0 where
  pub final : IsTrue (slice_index_or n.finals q false) → IsTrue (slice_index_or finals p false)
  pub answered : All (IsInRow relation answers p) (arrows_of n.arrows q)
