-- Members of lists, and steps by edges.
use Rattle.std.proofs.Common.{◌≡◌, ℕ, zero, suc, ◌<◌, ◌⊎◌, List, [], ◌∷◌, Option, None, Some, refl, inl, inr, arith}
use Rattle.std.specs.List.{All, Contains}
use Rattle.std.proofs.lemmas.List.Elements.{All-contains}
use Rattle.rela_nfa.specs.Automaton.{Move, IsMove}
use Rattle.rela_nfa.specs.Runs.{StepIn}

pub Contains-nil : {X : Type 0} (x : X) → Contains [] x → ⊥
Contains-nil x c = omega (arith, c.1)

pub Contains-cons_cases : {X : Type 0} (y : X) (xs : List X) (x : X) → Contains (y ∷ xs) x → (y ≡ x) ⊎ Contains xs x
Contains-cons_cases y xs x (zero, below, at) = inl at
Contains-cons_cases y xs x (suc k, below, at) = inr (k, omega (arith, below), at)

pub Contains-head : {X : Type 0} (x : X) (xs : List X) → Contains (x ∷ xs) x
Contains-head x xs = (0, omega arith, refl)

pub Contains-tail : {X : Type 0} (y : X) (xs : List X) (x : X) → Contains xs x → Contains (y ∷ xs) x
Contains-tail y xs x c = (suc c.0, omega (arith, c.1), c.2)

pub Contains-one : {X : Type 0} (x y : X) → Contains (x ∷ []) y → x ≡ y
Contains-one x y c = elim (Contains-cons_cases x [] y c) [ inl same ↦ same | inr later ↦ absurd (Contains-nil y later) ]

-- a step leads to a state
pub step_within : (size states : ℕ) (moves : List Move) (letter : Option ℕ) (q : ℕ) → All (IsMove size states) moves → StepIn moves letter q → q < states
step_within size states moves None q are step = (All-contains (IsMove size states) moves _ are step).leads
step_within size states moves (Some k) q are step = (All-contains (IsMove size states) moves _ are step.1).leads
