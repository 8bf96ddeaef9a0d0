-- States that are given numbers one after another, those with the same number as a layer.
use Rattle.std.specs.Prelude.{◌≡◌, ℕ, ◌+◌, ◌⊎◌, ◌↔◌, List, ◌++◌, length, count_by, Contains, Option, None, Some, is_none, slice_index_or}

-- the number of q, where it has one
abbrev pub number_of : List (Option ℕ) → ℕ → Option ℕ
number_of numbers q = slice_index_or numbers q None

abbrev pub HasNumber : List (Option ℕ) → ℕ → Type 0
HasNumber numbers q = (n : ℕ) × (number_of numbers q ≡ Some n)

-- how many have none
abbrev pub unnumbered : List (Option ℕ) → ℕ
unnumbered numbers = count_by is_none numbers

-- the layer lists just the states with the number
abbrev pub IsLayer : ℕ → List (Option ℕ) → List ℕ → Type 0
IsLayer number numbers layer = (q : ℕ) → Contains layer q ↔ (number_of numbers q ≡ Some number)

-- some states of P that had no number have this one now, each put at the end of the layer once
pub record Grows (P : ℕ → Type 0) (number : ℕ) (old new : List (Option ℕ))
    (before after : List ℕ) : Type 0 where
  pub count : length new ≡ length old
  pub kept : (q n : ℕ) → number_of old q ≡ Some n → number_of new q ≡ Some n
  pub only : (q n : ℕ) → number_of new q ≡ Some n → (number_of old q ≡ Some n)
      ⊎ ((n ≡ number) × P q × Contains after q)
  pub longer : (more : List ℕ) × (after ≡ before ++ more) × ((q : ℕ) → Contains more q →
      number_of new q ≡ Some number)
  pub balance : length after + unnumbered new ≡ length before + unnumbered old

-- what Next leads to, step by step, from those of From
pub data Spread (Next : ℕ → ℕ → Type 0) (From : ℕ → Type 0) : ℕ → Type 0 where
  here : {q : ℕ} → From q → Spread Next From q
  step : {p q : ℕ} → Spread Next From p → Next p q → Spread Next From q

-- q follows one of them
abbrev pub After : {X : Type 0} → (X → ℕ → Type 0) → List X → ℕ → Type 0
After {X} Next xs q = (x : X) × Contains xs x × Next x q

-- what Next leads to from the layer has a number
abbrev pub IsDone : (ℕ → ℕ → Type 0) → List (Option ℕ) → List ℕ → Type 0
IsDone Next numbers layer = (p q : ℕ) → Contains layer p → Next p q → HasNumber numbers q
