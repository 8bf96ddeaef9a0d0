-- Steps by the edges of a list, sets of one letter, and what is reached by steps.
use Rattle.std.proofs.Common.{◌≡◌, ◌≢◌, eqb, ℕ, zero, suc, ◌+◌, ◌<◌, ◌⊎◌, Bool, true, false, List, [], ◌∷◌, ◌++◌, length, get_or, map, Option, None, Some, refl, sym, ap, ◌∙◌, subst, inl, inr, arith, append_assoc}
use Rattle.std.specs.List.{Contains}
use Rattle.std.specs.Option.{option_to_list}
use Rattle.std.proofs.lemmas.Bool.{cases_lt, cases_eq, eqb-true, eq-eqb, ne_eqb, false≢true}
use Rattle.std.proofs.lemmas.List.{append-nil, ext_get_or, get_or-map, get_or_past, length-map}
use Rattle.std.proofs.lemmas.List.Elements.{Contains-append_left, Contains-append_right, Contains-append_cases}
use Rattle.std.proofs.lemmas.List.FromFn.{get_or-map-range_with_len, length-map-range_with_len}
use Rattle.rela_labels.specs.Letters.{has}
use Rattle.rela_nfa.specs.Automaton.{Automaton, Move}
use Rattle.rela_nfa.specs.Construction.{silent, single}
use Rattle.rela_nfa.specs.Runs.{Step, StepIn, HasStep, Follow, spelled, Reach}

-- ---- edges of a list

pub Contains-nil : {X : Type 0} (x : X) → Contains [] x → ⊥
Contains-nil x c = omega (arith, c.1)

pub Contains-cons_cases : {X : Type 0} (y : X) (xs : List X) (x : X) → Contains (y ∷ xs) x → (y ≡ x) ⊎ Contains xs x
Contains-cons_cases y xs x (zero, below, at) = inl at
Contains-cons_cases y xs x (suc k, below, at) = inr (k, omega (arith, below), at)

pub Contains-map : {X Y : Type 0} (f : X → Y) (xs : List X) (x : X) → Contains xs x → Contains (map f xs) (f x)
Contains-map f xs x c = (c.0, omega (arith, c.1, length-map xs f), get_or-map f xs c.0 x (f x) c.1 ∙ ap f c.2)

pub Contains-map_back : {X Y : Type 0} (f : X → Y) (xs : List X) (y : Y) → Contains (map f xs) y → (x : X) × (f x ≡ y) × Contains xs x
Contains-map_back f [] y c = absurd (Contains-nil y c)
Contains-map_back f (x ∷ xs) y c = elim (Contains-cons_cases (f x) (map f xs) y c) [
  | inl here ↦ (x, here, (0, omega arith, refl))
  | inr later ↦ let found = Contains-map_back f xs y later in (found.0, found.1, (suc found.2.0, omega (arith, found.2.1), found.2.2))
]

module _ (xs ys : List Move) where
  pub step_left : (letter : Option ℕ) (q : ℕ) → StepIn xs letter q → StepIn (xs ++ ys) letter q
  step_left None q step = Contains-append_left xs ys _ step
  step_left (Some k) q step = (step.0, Contains-append_left xs ys _ step.1, step.2)

  pub step_right : (letter : Option ℕ) (q : ℕ) → StepIn ys letter q → StepIn (xs ++ ys) letter q
  step_right None q step = Contains-append_right xs ys _ step
  step_right (Some k) q step = (step.0, Contains-append_right xs ys _ step.1, step.2)

  pub step_cases : (letter : Option ℕ) (q : ℕ) → StepIn (xs ++ ys) letter q → StepIn xs letter q ⊎ StepIn ys letter q
  step_cases None q step = Contains-append_cases xs ys _ step
  step_cases (Some k) q step =
      elim (Contains-append_cases xs ys _ step.1) [ inl left ↦ inl (step.0, left, step.2) | inr right ↦ inr (step.0, right, step.2) ]

pub no_step : (letter : Option ℕ) (q : ℕ) → StepIn [] letter q → ⊥
no_step None q step = Contains-nil _ step
no_step (Some k) q step = Contains-nil _ step.1

-- a silent edge is taken by no letter
pub silent_only : (to : ℕ) (letter : Option ℕ) (q : ℕ) → StepIn (silent to ∷ []) letter q → (letter ≡ None) × (q ≡ to)
silent_only to None q step = elim (Contains-cons_cases (silent to) [] _ step) [
  | inl same ↦ (refl, sym (ap (λ (move : Move). move.to) same))
  | inr none ↦ absurd (Contains-nil _ none)
]
silent_only to (Some k) q step = elim (Contains-cons_cases (silent to) [] _ step.1) [
  | inl same ↦ let never = ap (λ (move : Move). move.label) same in cc
  | inr none ↦ absurd (Contains-nil _ none)
]

-- ---- sets of one letter

single_within : (n k j : ℕ) → j < n → has (single n k) j ≡ eqb j k
single_within n k j below = get_or-map-range_with_len (λ i. eqb i k) 0 n j j false below (omega arith)

pub single_only : (n k j : ℕ) → has (single n k) j ≡ true → j ≡ k
single_only n k j among = elim (cases_lt j n) [
  | inl below ↦ eqb-true j k (sym (single_within n k j below) ∙ among)
  | inr past ↦
      let never = get_or_past (single n k) j false (omega (arith, past, length-map-range_with_len (λ i. eqb i k) 0 n)) in
      absurd (false≢true (sym never ∙ among))
]

pub single_has : (n k : ℕ) → k < n → has (single n k) k ≡ true
single_has n k below = single_within n k k below ∙ eq-eqb k k refl

-- the set that one letter was put into
pub letters_single : (n k : ℕ) (letters : List Bool) → length letters ≡ n → k < n → has letters k ≡ true → ((j : ℕ) → j ≢ k → has letters j ≡ false) → letters ≡ single n k
letters_single n k letters len below here others =
    ext_get_or false letters (single n k) (len ∙ sym (length-map-range_with_len (λ i. eqb i k) 0 n)) (λ j within. elim (cases_eq j k) [
      | inl same ↦ ap (λ i. has letters i) same ∙ here ∙ sym (ap (λ i. has (single n k) i) same ∙ single_has n k below)
      | inr apart ↦ others j apart ∙ sym (single_within n k j (omega arith) ∙ ne_eqb j k apart)
    ])

-- ---- what is reached

module _ (a : Automaton) where
  follow_push : (x p q : ℕ) (letter : Option ℕ) (steps : List Step) → Follow a x steps p → HasStep a p letter q → Follow a x (steps ++ record { letter = letter; to = q } ∷ []) q
  follow_push x p q letter [] here step = (subst (λ n. HasStep a n letter q) (sym here) step, refl)
  follow_push x p q letter (first ∷ rest) follows step = (follows.0, follow_push first.to p q letter rest follows.1 step)

spelled_push : (steps : List Step) (letter : Option ℕ) (q : ℕ) → spelled (steps ++ record { letter = letter; to = q } ∷ []) ≡ spelled steps ++ option_to_list letter
spelled_push [] letter q = append-nil (option_to_list letter)
spelled_push (first ∷ rest) letter q =
    ap (λ l. option_to_list first.letter ++ l) (spelled_push rest letter q) ∙ sym (append_assoc (option_to_list first.letter) (spelled rest) (option_to_list letter))

-- the empty word reaches the start
pub reach_start : (a : Automaton) → Reach a a.start []
reach_start a = ([], refl, refl)

-- an edge leads on
pub reach_step : (a : Automaton) (p q : ℕ) (letter : Option ℕ) (word : List ℕ) → Reach a p word → HasStep a p letter q → Reach a q (word ++ option_to_list letter)
reach_step a p q letter word reach step =
    (reach.0 ++ record { letter = letter; to = q } ∷ [], follow_push a a.start p q letter reach.0 reach.1 step, spelled_push reach.0 letter q ∙ ap (λ w. w ++ option_to_list letter) reach.2)

-- a silent edge leads on by the same word
pub reach_silent : (a : Automaton) (p q : ℕ) (word : List ℕ) → Reach a p word → HasStep a p None q → Reach a q word
reach_silent a p q word reach step = subst (λ w. Reach a q w) (append-nil word) (reach_step a p q None word reach step)

-- what holds at the start and is kept by each edge holds of all that is reached
module _ (a : Automaton) (P : ℕ → List ℕ → Type 0)
    (kept : (p q : ℕ) (letter : Option ℕ) (word : List ℕ) → Reach a p word → P p word → HasStep a p letter q → P q (word ++ option_to_list letter)) where
  follow_each : (steps : List Step) (p q : ℕ) (word : List ℕ) → Reach a p word → P p word → Follow a p steps q → P q (word ++ spelled steps)
  follow_each [] p q word reach holds here = subst (λ n. P n (word ++ [])) here (subst (λ w. P p w) (sym (append-nil word)) holds)
  follow_each (first ∷ rest) p q word reach holds follows =
      subst (λ w. P q w) (append_assoc word (option_to_list first.letter) (spelled rest))
      (follow_each rest first.to q (word ++ option_to_list first.letter) (reach_step a p first.to first.letter word reach follows.0)
      (kept p first.to first.letter word reach holds follows.0) follows.1)

  pub reach_each : P a.start [] → (q : ℕ) (word : List ℕ) → Reach a q word → P q word
  reach_each starts q word reach = subst (λ w. P q w) reach.2 (follow_each reach.0 a.start q [] (reach_start a) starts reach.1)
