-- Edges whose labels have a letter.
use Rattle.std.proofs.Common.{◌≡◌, ℕ, zero, suc, ◌+◌, ◌<◌, ◌≤◌, ◌⊎◌, Bool, true, false, cond, List, [], ◌∷◌, Option, None, Some, refl, sym, ap, ◌∙◌, subst, inl, inr, arith}
use Rattle.std.specs.List.{All, Contains, count_by}
use Rattle.std.specs.Option.{IsSome}
use Rattle.std.proofs.lemmas.Bool.{cases_Bool, false≢true}
use Rattle.std.proofs.lemmas.List.Elements.{All-contains}
use Rattle.std.proofs.lemmas.List.Sums.{sum_by-cons}
use Rattle.std.proofs.lemmas.Option.{same_Some}
use Rattle.rela_labels.specs.Letters.{has}
use Rattle.rela_nfa.specs.Automaton.{Move, IsMove}
use Rattle.rela_nfa.specs.Runs.{StepIn}
use Rattle.rela_subset.specs.Deterministic.{takes, target}

pub Contains-nil : {X : Type 0} (x : X) → Contains [] x → ⊥
Contains-nil x c = omega (arith, c.1)

pub Contains-cons_cases : {X : Type 0} (y : X) (xs : List X) (x : X) → Contains (y ∷ xs) x → (y ≡ x) ⊎ Contains xs x
Contains-cons_cases y xs x (zero, below, at) = inl at
Contains-cons_cases y xs x (suc k, below, at) = inr (k, omega (arith, below), at)

pub Contains-head : {X : Type 0} (x : X) (xs : List X) → Contains (x ∷ xs) x
Contains-head x xs = (0, omega arith, refl)

pub Contains-tail : {X : Type 0} (y : X) (xs : List X) (x : X) → Contains xs x → Contains (y ∷ xs) x
Contains-tail y xs x c = (suc c.0, omega (arith, c.1), c.2)

pub Contains-one : {X : Type 0} (x y : X) → Contains (x ∷ []) y → x ≡ y
Contains-one x y c = elim (Contains-cons_cases x [] y c) [ inl same ↦ same | inr later ↦ absurd (Contains-nil y later) ]

-- the label that has the letter
takes_label : (k : ℕ) (label : Option (List Bool)) (to : ℕ) → takes k (record { label = label; to = to }) ≡ true
    → (set : List Bool) × (label ≡ Some set) × (has set k ≡ true)
takes_label k None to e = absurd (false≢true e)
takes_label k (Some set) to e = (set, refl, e)

pub count_cons : (k : ℕ) (move : Move) (others : List Move) → count_by (takes k) (move ∷ others) ≡ cond (takes k move) 1 0 + count_by (takes k) others
count_cons k move others = sum_by-cons (λ (m : Move). cond (takes k m) 1 0) move others

pub count_taking : (k : ℕ) (move : Move) (others : List Move) → takes k move ≡ true → count_by (takes k) (move ∷ others) ≡ 1 + count_by (takes k) others
count_taking k move others e = count_cons k move others ∙ ap (λ b. cond b 1 0 + count_by (takes k) others) e

pub count_other : (k : ℕ) (move : Move) (others : List Move) → takes k move ≡ false → count_by (takes k) (move ∷ others) ≡ count_by (takes k) others
count_other k move others e =
    let at : count_by (takes k) (move ∷ others) ≡ 0 + count_by (takes k) others = count_cons k move others ∙ ap (λ b. cond b 1 0 + count_by (takes k) others) e in
    omega arith

-- a step by the first edge
pub step_here : (move : Move) (others : List Move) (k : ℕ) → takes k move ≡ true → StepIn (move ∷ others) (Some k) move.to
step_here move others k e =
    let found = takes_label k move.label move.to e in
    (found.0, subst (λ label. Contains (move ∷ others) (record { label = label; to = move.to })) found.1 (Contains-head move others), found.2)

pub step_later : (move : Move) (others : List Move) (letter : Option ℕ) (q : ℕ) → StepIn others letter q → StepIn (move ∷ others) letter q
step_later move others None q step = Contains-tail move others _ step
step_later move others (Some k) q step = (step.0, Contains-tail move others _ step.1, step.2)

pub step_cases : (move : Move) (others : List Move) (k q : ℕ) → StepIn (move ∷ others) (Some k) q
    → ((takes k move ≡ true) × (move.to ≡ q)) ⊎ StepIn others (Some k) q
step_cases move others k q step = elim (Contains-cons_cases move others _ step.1) [
  | inl here ↦ inl (ap (takes k) here ∙ step.2, ap (λ (m : Move). m.to) here)
  | inr later ↦ inr (step.0, later, step.2)
]

-- the edge that takes the letter leads to the target
pub target_step : (moves : List Move) (k t : ℕ) → target moves k ≡ Some t → StepIn moves (Some k) t
target_step [] k t e = let never : None ≡ Some t = e in absurd (cc)
target_step (move ∷ others) k t e = elim (cases_Bool (takes k move)) [
  | inl yes' ↦
      let at : Some move.to ≡ Some t = sym (ap (λ b. cond b (Some move.to) (target others k)) yes') ∙ e in
      subst (λ q. StepIn (move ∷ others) (Some k) q) (same_Some move.to t at) (step_here move others k yes')
  | inr no' ↦
      step_later move others (Some k) t (target_step others k t (sym (ap (λ b. cond b (Some move.to) (target others k)) no') ∙ e))
]

-- a step by a letter is counted
pub step_counts : (moves : List Move) (k t : ℕ) → StepIn moves (Some k) t → 1 ≤ count_by (takes k) moves
step_counts [] k t step = absurd (Contains-nil _ step.1)
step_counts (move ∷ others) k t step = elim (cases_Bool (takes k move)) [
  | inl yes' ↦ let counted = count_taking k move others yes' in omega arith
  | inr no' ↦ elim (step_cases move others k t step) [
    | inl here ↦ absurd (false≢true (sym no' ∙ here.0))
    | inr later ↦ let counted = count_other k move others no' in let rest = step_counts others k t later in omega arith
  ]
]

-- where one edge takes the letter, steps by it lead to the target alone
pub step_target : (moves : List Move) (k t : ℕ) → count_by (takes k) moves ≤ 1 → StepIn moves (Some k) t → target moves k ≡ Some t
step_target [] k t one step = absurd (Contains-nil _ step.1)
step_target (move ∷ others) k t one step = elim (cases_Bool (takes k move)) [
  | inl yes' ↦ elim (step_cases move others k t step) [
    | inl here ↦ ap (λ b. cond b (Some move.to) (target others k)) yes' ∙ ap Some here.1
    | inr later ↦
        let counted = count_taking k move others yes' in
        let rest = step_counts others k t later in
        absurd (omega arith)
  ]
  | inr no' ↦ elim (step_cases move others k t step) [
    | inl here ↦ absurd (false≢true (sym no' ∙ here.0))
    | inr later ↦
        let counted = count_other k move others no' in
        ap (λ b. cond b (Some move.to) (target others k)) no' ∙ step_target others k t (omega arith) later
  ]
]

-- where an edge takes the letter, it has a target
pub some_target : (moves : List Move) (k : ℕ) → 1 ≤ count_by (takes k) moves → (t : ℕ) × (target moves k ≡ Some t)
some_target [] k counted = absurd (omega (arith, counted))
some_target (move ∷ others) k counted = elim (cases_Bool (takes k move)) [
  | inl yes' ↦ (move.to, ap (λ b. cond b (Some move.to) (target others k)) yes')
  | inr no' ↦
      let rest = some_target others k (let count = count_other k move others no' in omega arith) in
      (rest.0, ap (λ b. cond b (Some move.to) (target others k)) no' ∙ rest.1)
]

-- no step by a letter that no edge takes
pub no_target : (moves : List Move) (k : ℕ) → count_by (takes k) moves ≡ 0 → target moves k ≡ None
no_target [] k none = refl
no_target (move ∷ others) k none = elim (cases_Bool (takes k move)) [
  | inl yes' ↦ let counted = count_taking k move others yes' in absurd (omega arith)
  | inr no' ↦ ap (λ b. cond b (Some move.to) (target others k)) no' ∙ no_target others k (sym (count_other k move others no') ∙ none)
]

pub labelled_step : (moves : List Move) (q : ℕ) → All (λ move. IsSome move.label) moves → ¬ StepIn moves None q
labelled_step moves q labelled step = let never = All-contains (λ (move : Move). IsSome move.label) moves _ labelled step in false≢true never

-- a step leads to a state
pub step_within : (size states : ℕ) (moves : List Move) (letter : Option ℕ) (q : ℕ) → All (IsMove size states) moves → StepIn moves letter q → q < states
step_within size states moves None q are step = (All-contains (IsMove size states) moves _ are step).leads
step_within size states moves (Some k) q are step = (All-contains (IsMove size states) moves _ are step.1).leads
