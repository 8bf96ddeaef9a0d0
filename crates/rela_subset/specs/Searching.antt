-- The search through the sets of states that words reach, in shortlex order of the words.
use Rattle.std.specs.Prelude.{◌≡◌, ℕ, ◌+◌, ◌<◌, ◌≤◌, ◌⊎◌, Bool, true, false, List, [], ◌∷◌, ◌++◌, length, map, slice_index_or}
use Rattle.std.specs.List.{All}
use Rattle.rela_labels.specs.Letters.{has}
use Rattle.rela_names.specs.Shortlex.{IsBefore}
use Rattle.rela_nfa.specs.Automaton.{Automaton}
use Rattle.rela_subset.specs.Expansion.{AreFound, Arrives, Comes, HasGrown}
use Rattle.rela_subset.specs.declared.arrival.Arrival.{Arrival}

-- the letters that are over and not in the rest lead from the set to old sets, and to those found by some of them
pub record IsSpread (a : Automaton) (over rest : List Bool) (set : List ℕ) (old new : List (List ℕ))
    (letters : List ℕ) : Type 0 where
  pub grown : HasGrown a over set old new letters
  pub leads : (letter : ℕ) → has over letter ≡ true → has rest letter ≡ false → (to : ℕ)
      × Comes a set old new letters letter to
  pub within : (letter : ℕ) → has rest letter ≡ true → has over letter ≡ true
  pub ahead : (letter : ℕ) → has rest letter ≡ true → All (λ found. found < letter) letters

-- the same with no letter in the rest, or more sets than the limit
abbrev pub IsSpreadUpTo : ℕ → Automaton → List Bool → List ℕ → List (List ℕ) →
    List (List ℕ) → List ℕ → Type 0
IsSpreadUpTo limit a over set old new letters =
    (rest : List Bool) × IsSpread a over rest set old new letters
    × (((letter : ℕ) → has rest letter ≡ false) ⊎ (limit < length new))

-- for each of the letters, that a set was found by it from the set of number p
abbrev pub arrivals_from : ℕ → List ℕ → List Arrival
arrivals_from p letters = map (λ letter. record { from = p; letter = letter }) letters

-- the set is among the sets, and where it is new how it was found is put behind the arrivals
pub record HasArrived (set : List ℕ) (arrival : Arrival) (old new : List (List ℕ))
    (before after : List Arrival) : Type 0 where
  pub to : ℕ
  pub within : to < length new
  pub at : slice_index_or new to [] ≡ set
  pub put : ((new ≡ old) × (after ≡ before)) ⊎ ((new ≡ old ++ set ∷ []) × (to ≡ length old)
      × (after ≡ before ++ arrival ∷ []))

-- each word but the first, which is empty, is an earlier one with the letter of its arrival
pub record AreTraced (words : List (List ℕ)) (arrivals : List Arrival) : Type 0 where
  pub first : slice_index_or words 0 [] ≡ []
  pub earlier : (i : ℕ) (e : Arrival) → i < length arrivals → (slice_index_or arrivals i e).from ≤ i
  pub spelled : (i : ℕ) (e : Arrival) → i < length arrivals
      → slice_index_or words (i + 1) [] ≡ slice_index_or words (slice_index_or arrivals i e).from []
      ++ (slice_index_or arrivals i e).letter ∷ []

-- the letter leads from the set of number i past the words of all sets
abbrev pub LeadsPast : List (List ℕ) → List (List ℕ) → ℕ → ℕ → Type 0
LeadsPast sets words i letter = (j : ℕ) → j < length sets →
    IsBefore (slice_index_or words j []) (slice_index_or words i [] ++ letter ∷ [])

-- the sets so far and how each but the first was found, where each letter leads from those before `left` to one of them,
-- or is in the rest and leads past them
pub record IsSearched (a : Automaton) (over rest : List Bool) (sets : List (List ℕ))
    (arrivals : List Arrival) (left : ℕ) : Type 0 where
  pub words : List (List ℕ)
  pub found : AreFound a over sets words left
  pub traced : AreTraced words arrivals
  pub one_each : length sets ≡ length arrivals + 1
  pub out : (i letter : ℕ) → i < left → has over letter ≡ true
      → ((to : ℕ) × Arrives a sets words i letter to) ⊎ ((has rest letter ≡ true)
      × LeadsPast sets words i letter)

-- no set has the property
abbrev pub AreUnwanted : (List ℕ → Type 0) → List (List ℕ) → Type 0
AreUnwanted P sets = (i : ℕ) → i < length sets → ¬ P (slice_index_or sets i [])

-- the set of this number is the first that has the property
pub record IsFirstAt (P : List ℕ → Type 0) (sets : List (List ℕ)) (number : ℕ) : Type 0 where
  pub within : number < length sets
  pub here : P (slice_index_or sets number [])
  pub before : (i : ℕ) → i < number → ¬ P (slice_index_or sets i [])
