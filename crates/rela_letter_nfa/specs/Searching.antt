-- The search through the sets of states that words reach, in shortlex order of the words.
use Rattle.std.specs.Prelude.{◌≡◌, ℕ, ◌+◌, ◌-◌, ◌^◌, ◌<◌, ◌≤◌, ◌⊎◌, List, [], ◌∷◌, ◌++◌, length, slice_index_or}
use Rattle.rela_names.specs.Shortlex.{IsBefore}
use Rattle.rela_letter_nfa.specs.LetterAutomaton.{LetterAutomaton}
use Rattle.rela_letter_nfa.specs.Pair.{Pair, IsSoughtSet, joined, starts_of}
use Rattle.rela_letter_nfa.specs.Sets.{AreDistinct, LeadsFrom, Lists, NextFrom}
use Rattle.rela_letter_nfa.specs.declared.arrival.Arrival.{Arrival}
use Rattle.rela_letter_nfa.specs.declared.difference.Sought.{Sought}

-- the words are in order, or equal
abbrev pub IsUpTo : List ℕ → List ℕ → Type 0
IsUpTo u v = (u ≡ v) ⊎ IsBefore u v

-- the letter has been taken from the set of number i: all have from those before `left`, and from that one those below `bound`
abbrev pub IsTaken : ℕ → ℕ → ℕ → ℕ → Type 0
IsTaken left bound i letter = (i < left) ⊎ ((i ≡ left) × (letter < bound))

-- the letter leads from the set of number i to no state, or to a set whose word isn't after
abbrev pub Goes : LetterAutomaton → List (List ℕ) → List (List ℕ) → ℕ → ℕ → Type 0
Goes a sets words i letter =
    ((q : ℕ) → ¬ NextFrom a (slice_index_or sets i []) letter q) ⊎ ((j : ℕ) × (j < length sets)
    × Lists (NextFrom a (slice_index_or sets i []) letter) (slice_index_or sets j [])
    × IsUpTo (slice_index_or words j []) (slice_index_or words i [] ++ letter ∷ []))

-- each word but the first, which is empty, is an earlier one with the letter of its arrival
pub record AreTraced (words : List (List ℕ)) (arrivals : List Arrival) : Type 0 where
  pub first : slice_index_or words 0 [] ≡ []
  pub earlier : (i : ℕ) (e : Arrival) → i < length arrivals → (slice_index_or arrivals i e).from ≤ i
  pub spelled : (i : ℕ) (e : Arrival) → i < length arrivals
      → slice_index_or words (i + 1) [] ≡ slice_index_or words (slice_index_or arrivals i e).from []
      ++ (slice_index_or arrivals i e).letter ∷ []

-- the sets so far, each with the first word that reaches it from the starts, and where the letters that were taken lead
pub record IsSearched (a : LetterAutomaton) (starts : List ℕ) (sets : List (List ℕ))
    (arrivals : List Arrival) (left bound : ℕ) : Type 0 where
  pub words : List (List ℕ)
  pub each : length words ≡ length sets
  pub one_each : length sets ≡ length arrivals + 1
  pub traced : AreTraced words arrivals
  pub taken : (i : ℕ) (e : Arrival) → i < length arrivals →
      IsTaken left bound (slice_index_or arrivals i e).from (slice_index_or arrivals i e).letter
  pub reached : (i : ℕ) → i < length sets →
      Lists (LeadsFrom a starts (slice_index_or words i [])) (slice_index_or sets i [])
  pub ascending : (i j : ℕ) → i < j → j < length sets →
      IsBefore (slice_index_or words i []) (slice_index_or words j [])
  pub out : (i letter : ℕ) → i < length sets → IsTaken left bound i letter →
      Goes a sets words i letter

-- the same, wherever the search stands
abbrev pub IsSearchedSoFar : LetterAutomaton → List ℕ → List (List ℕ) → List Arrival → Type 0
IsSearchedSoFar a starts sets arrivals = (left : ℕ) × (bound : ℕ)
    × IsSearched a starts sets arrivals left bound

-- no set has the property
abbrev pub AreUnwanted : (List ℕ → Type 0) → List (List ℕ) → Type 0
AreUnwanted P sets = (i : ℕ) → i < length sets → ¬ P (slice_index_or sets i [])

-- there are more sets than the limit, which isn't the greatest number, and none twice
pub record IsPast (limit : ℕ) (sets : List (List ℕ)) : Type 0 where
  pub past : limit < length sets
  pub small : limit < 2 ^ 63
  pub distinct : AreDistinct sets

-- none of the sets so far is sought, and there are more than the limit
pub record IsPastLimit (sought : Sought) (pair : Pair) (limit : ℕ) (sets : List (List ℕ))
    (arrivals : List Arrival) : Type 0 where
  pub searched : IsSearchedSoFar (joined pair) (starts_of pair) sets arrivals
  pub unwanted : AreUnwanted (IsSoughtSet sought pair) sets
  pub past : IsPast limit sets

-- the last set is the first that has the property
pub record IsLastWanted (P : List ℕ → Type 0) (sets : List (List ℕ)) : Type 0 where
  pub some : 0 < length sets
  pub here : P (slice_index_or sets (length sets - 1) [])
  pub before : (i : ℕ) → i + 1 < length sets → ¬ P (slice_index_or sets i [])

-- the last of the sets so far is the first that is sought
pub record IsFound (sought : Sought) (pair : Pair) (sets : List (List ℕ))
    (arrivals : List Arrival) : Type 0 where
  pub searched : IsSearchedSoFar (joined pair) (starts_of pair) sets arrivals
  pub last : IsLastWanted (IsSoughtSet sought pair) sets

-- the set is among the sets, and where it is new how it was found is put behind the arrivals
abbrev pub HasArrived : List ℕ → Arrival → List (List ℕ) → List (List ℕ) → List Arrival →
    List Arrival → Type 0
HasArrived set arrival old new before after =
    ((new ≡ old) × (after ≡ before) × ((j : ℕ) × (j < length old) × (slice_index_or old j [] ≡ set)))
    ⊎ ((new ≡ old ++ set ∷ []) × (after ≡ before ++ arrival ∷ []))
