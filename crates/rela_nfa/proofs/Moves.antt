-- Steps by the edges of a list.
use Rattle.std.proofs.Common.{◌≡◌, ℕ, zero, suc, ◌+◌, ◌⊎◌, List, [], ◌∷◌, ◌++◌, map, Option, None, Some, refl, ap, ◌∙◌, subst, inl, inr, arith}
use Rattle.std.specs.List.{Contains}
use Rattle.std.proofs.lemmas.List.{get_or-map, length-map}
use Rattle.std.proofs.lemmas.List.Elements.{Contains-append_left, Contains-append_right, Contains-append_cases}
use Rattle.rela_nfa.specs.Automaton.{Move}
use Rattle.rela_nfa.specs.Runs.{StepIn}
use Rattle.rela_nfa.specs.Construction.{shifted, silent}

pub Contains-nil : {X : Type 0} (x : X) → Contains [] x → ⊥
Contains-nil x c = omega (arith, c.1)

pub Contains-cons_cases : {X : Type 0} (y : X) (xs : List X) (x : X) → Contains (y ∷ xs) x → (y ≡ x) ⊎ Contains xs x
Contains-cons_cases y xs x (zero, below, at) = inl at
Contains-cons_cases y xs x (suc k, below, at) = inr (k, omega (arith, below), at)

pub Contains-map : {X Y : Type 0} (f : X → Y) (xs : List X) (x : X) → Contains xs x → Contains (map f xs) (f x)
Contains-map f xs x c = (c.0, omega (arith, c.1, length-map xs f), get_or-map f xs c.0 x (f x) c.1 ∙ ap f c.2)

pub Contains-map_back : {X Y : Type 0} (f : X → Y) (xs : List X) (y : Y) → Contains (map f xs) y → (x : X) × (f x ≡ y) × Contains xs x
Contains-map_back f [] y c = absurd (Contains-nil y c)
Contains-map_back f (x ∷ xs) y c = elim (Contains-cons_cases (f x) (map f xs) y c) [
  | inl here ↦ (x, here, (0, omega arith, refl))
  | inr later ↦ let found = Contains-map_back f xs y later in (found.0, found.1, (suc found.2.0, omega (arith, found.2.1), found.2.2))
]

module _ (xs ys : List Move) where
  pub step_left : (letter : Option ℕ) (q : ℕ) → StepIn xs letter q → StepIn (xs ++ ys) letter q
  step_left None q step = Contains-append_left xs ys _ step
  step_left (Some k) q step = (step.0, Contains-append_left xs ys _ step.1, step.2)

  pub step_right : (letter : Option ℕ) (q : ℕ) → StepIn ys letter q → StepIn (xs ++ ys) letter q
  step_right None q step = Contains-append_right xs ys _ step
  step_right (Some k) q step = (step.0, Contains-append_right xs ys _ step.1, step.2)

  pub step_cases : (letter : Option ℕ) (q : ℕ) → StepIn (xs ++ ys) letter q → StepIn xs letter q ⊎ StepIn ys letter q
  step_cases None q step = Contains-append_cases xs ys _ step
  step_cases (Some k) q step =
      elim (Contains-append_cases xs ys _ step.1) [ inl left ↦ inl (step.0, left, step.2) | inr right ↦ inr (step.0, right, step.2) ]

pub no_step : (letter : Option ℕ) (q : ℕ) → StepIn [] letter q → ⊥
no_step None q step = Contains-nil _ step
no_step (Some k) q step = Contains-nil _ step.1

-- a step by a list of silent edges
pub silent_step : (ends : List ℕ) (q : ℕ) → Contains ends q → StepIn (map silent ends) None q
silent_step ends q c = Contains-map silent ends q c

pub silent_step_only : (ends : List ℕ) (letter : Option ℕ) (q : ℕ) → StepIn (map silent ends) letter q → (letter ≡ None) × Contains ends q
silent_step_only ends None q step =
    let found = Contains-map_back silent ends _ step in
    (refl, subst (λ n. Contains ends n) (ap (λ (m : Move). m.to) found.1) found.2)
silent_step_only ends (Some k) q step = let found = Contains-map_back silent ends _ step.1 in absurd (None≢Some (ap (λ (m : Move). m.label) found.1))
  where
    None≢Some : {X : Type 0} {x : X} → None ≡ Some x → ⊥
    None≢Some e = cc

module _ (by : ℕ) (moves : List Move) where
  pub shifted_step : (letter : Option ℕ) (q : ℕ) → StepIn moves letter q → StepIn (map (shifted by) moves) letter (by + q)
  shifted_step None q step = Contains-map (shifted by) moves _ step
  shifted_step (Some k) q step = (step.0, Contains-map (shifted by) moves _ step.1, step.2)

  pub shifted_step_back : (letter : Option ℕ) (q : ℕ) → StepIn (map (shifted by) moves) letter q → (p : ℕ) × (by + p ≡ q) × StepIn moves letter p
  shifted_step_back None q step =
      let found = Contains-map_back (shifted by) moves _ step in
      let labelled : found.0.label ≡ None = ap (λ (m : Move). m.label) found.1 in
      (found.0.to, ap (λ (m : Move). m.to) found.1, subst (λ label. Contains moves (record { label = label; to = found.0.to })) labelled found.2)
  shifted_step_back (Some k) q step =
      let found = Contains-map_back (shifted by) moves _ step.1 in
      let labelled : found.0.label ≡ Some step.0 = ap (λ (m : Move). m.label) found.1 in
      (found.0.to, ap (λ (m : Move). m.to) found.1, (step.0, subst (λ label. Contains moves (record { label = label; to = found.0.to })) labelled found.2, step.2))
