-- States and words that are told apart, and the classes of states that are not.
use Rattle.std.specs.Prelude.{◌≡◌, ℕ, ◌<◌, ◌↔◌, Bool, false, List, ◌++◌, length, slice_index, slice_index_or}
use Rattle.rela_nfa.specs.Automaton.{Move}
use Rattle.rela_subset.specs.Deterministic.{Deterministic, IsAccepted, IsFinal, IsOver, led_from, states}

-- no word over the letters that follows tells the two words apart
abbrev pub AreAlike : Deterministic → List ℕ → List ℕ → Type 0
AreAlike d v w = (rest : List ℕ) → IsOver d.over rest → IsAccepted d (v ++ rest) ↔
    IsAccepted d (w ++ rest)

-- from the two states the same words over the letters are accepted
abbrev pub AcceptSame : Deterministic → ℕ → ℕ → Type 0
AcceptSame d p q = (word : List ℕ) → IsOver d.over word → IsFinal d (led_from d p word) ↔
    IsFinal d (led_from d q word)

-- no two states accept the same words
abbrev pub IsMinimal : Deterministic → Type 0
IsMinimal d = (p q : ℕ) → p < states d → q < states d → AcceptSame d p q → p ≡ q

-- the number of each state's class: two states are in one class where they accept the same words, and each number below
-- the count is that of some state's class
pub record AreClasses (d : Deterministic) (count : ℕ) (classes : List ℕ) : Type 0 where
  pub each : length classes ≡ states d
  pub alike : (p q : ℕ) → p < states d → q < states d →
      (slice_index classes p ≡ slice_index classes q) ↔ AcceptSame d p q
  pub counted : (q : ℕ) → q < states d → slice_index classes q < count
  pub met : (c : ℕ) → c < count → (q : ℕ) × (q < states d) × (slice_index classes q ≡ c)

-- the first state of each class, where classes are numbered in the order of their first states
pub record AreFirst (n : ℕ) (classes heads : List ℕ) : Type 0 where
  pub state : (c : ℕ) → c < length heads → slice_index heads c < n
  pub own : (c : ℕ) → c < length heads → slice_index classes (slice_index heads c) ≡ c
  pub before : (q c : ℕ) → q < n → c < slice_index classes q → slice_index heads c < q

-- the same classes, numbered in the order of their first states
pub record AreInOrder (classes numbers heads : List ℕ) : Type 0 where
  pub each : length numbers ≡ length classes
  pub same : (p q : ℕ) → p < length classes → q < length classes →
      (slice_index numbers p ≡ slice_index numbers q) ↔
      (slice_index classes p ≡ slice_index classes q)
  pub counted : (q : ℕ) → q < length classes → slice_index numbers q < length heads
  pub first : AreFirst (length classes) numbers heads

-- whether the state is final
abbrev pub finality : Deterministic → ℕ → Bool
finality d q = slice_index_or d.finals q false

-- the edge, to the class of the state to which it leads
abbrev pub onto : List ℕ → Move → Move
onto classes move = record { label = move.label; to = slice_index classes move.to }
