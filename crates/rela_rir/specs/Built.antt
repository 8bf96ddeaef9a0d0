-- How the states of a machine that is built of others are reached, by what reaches the states of those.
-- What reaches a state is a word, or a pair of words.
use Rattle.std.specs.Prelude.{◌≡◌, ◌≢◌, ℕ, ◌+◌, ◌<◌, ◌↔◌, List, [], ◌∷◌, Some, slice_get, AllPairs, Contains}
use Rattle.rela_rir.specs.Meaning.{IsPathWord}
use Rattle.rela_rir.specs.Places.{Arrivals}
use Rattle.rela_rir.specs.Tables.{ToldByState}

-- the pair of empty words
abbrev pub IsEmptyPair : List ℕ × List ℕ → Type 0
IsEmptyPair x = (x.0 ≡ []) × (x.1 ≡ [])

-- one state, which the empty word reaches
pub record OneState (r : ℕ → List ℕ → Type 0) : Type 0 where
  pub begin : (w : List ℕ) → r 0 w ↔ (w ≡ [])
  pub count : (q : ℕ) (w : List ℕ) → r q w → q < 1

-- a state that the empty word reaches, and one that the words of one member reach
pub record LetterStates (member : ℕ → Type 0) (r : ℕ → List ℕ → Type 0) : Type 0 where
  pub begin : (w : List ℕ) → r 0 w ↔ (w ≡ [])
  pub end : (w : List ℕ) → r 1 w ↔ ((s : ℕ) × (w ≡ s ∷ []) × member s)
  pub count : (q : ℕ) (w : List ℕ) → r q w → q < 2

-- the n states of the first machine, and after them those of the second
pub record SideBySide {I : Type 0} (n : ℕ)
    (first_reach second_reach r : ℕ → I → Type 0) : Type 0 where
  pub count : (q : ℕ) (i : I) → first_reach q i → q < n
  pub first : (q : ℕ) (i : I) → q < n → r q i ↔ first_reach q i
  pub second : (q : ℕ) (i : I) → r (n + q) i ↔ second_reach q i

-- a start of its own, the n states of the first machine, and after them those of the second
pub record UnionStates {I : Type 0} (start : I → Type 0) (n : ℕ)
    (first_reach second_reach r : ℕ → I → Type 0) : Type 0 where
  pub count : (q : ℕ) (i : I) → first_reach q i → q < n
  pub begin : (i : I) → r 0 i ↔ start i
  pub first : (q : ℕ) (i : I) → q < n → r (1 + q) i ↔ first_reach q i
  pub second : (q : ℕ) (i : I) → r (1 + n + q) i ↔ second_reach q i

-- a start of its own, and after it the states of the machine
pub record StarStates {I : Type 0} (start : I → Type 0) (reach r : ℕ → I → Type 0) : Type 0 where
  pub begin : (i : I) → r 0 i ↔ start i
  pub copies : (q : ℕ) (i : I) → r (1 + q) i ↔ reach q i

-- pairs of states, no two of which are equal, among them each that is reached: they are numbered by
-- where they stand in the list
pub record NumberedPairs {I : Type 0} (pairs : List (ℕ × ℕ)) (reach : ℕ × ℕ → I → Type 0)
    (r : ℕ → I → Type 0) : Type 0 where
  pub different : AllPairs ◌≢◌ pairs
  pub all : (q : ℕ × ℕ) (i : I) → reach q i → Contains pairs q
  pub numbered : (k : ℕ) (i : I) → r k i ↔ ((q : ℕ × ℕ) × (slice_get pairs k ≡ Some q) × reach q i)

-- a start, a state for each of n nodes, and one for the end
pub record PathStates (n : ℕ) (arrivals : Arrivals) (r : ℕ → List ℕ → Type 0) : Type 0 where
  pub begin : (w : List ℕ) → r 0 w ↔ (w ≡ [])
  pub nodes : (q : ℕ) (w : List ℕ) → q < n → r (1 + q) w ↔ arrivals.at_node q w
  pub end : (w : List ℕ) → r (1 + n) w ↔ arrivals.at_end w
  pub count : (q : ℕ) (w : List ℕ) → r q w → q < 2 + n

-- Each word of path symbols leads to one state. Words that reach the same states of the part lead to one, and
-- words that lead to different ones are told apart by a state of the part.
pub record ComplementStates (path_symbols : ℕ) (part_reach r : ℕ → List ℕ → Type 0) : Type 0 where
  pub after : List ℕ → ℕ
  pub reached : (q : ℕ) (w : List ℕ) → r q w ↔ (IsPathWord path_symbols w × (after w ≡ q))
  pub alike : (v w : List ℕ) → IsPathWord path_symbols v → IsPathWord path_symbols w →
      ((q : ℕ) → part_reach q v ↔ part_reach q w) → after v ≡ after w
  pub told : (v w : List ℕ) → IsPathWord path_symbols v → IsPathWord path_symbols w →
      after v ≢ after w → ToldByState part_reach v w

-- Below `count` are the states that words of path symbols lead to, and words that lead to one state reach
-- the same states of the part.
pub record TellsAll (path_symbols count : ℕ) (after : List ℕ → ℕ)
    (part_reach : ℕ → List ℕ → Type 0) : Type 0 where
  pub below : (v : List ℕ) → IsPathWord path_symbols v → after v < count
  pub alike : (v w : List ℕ) → IsPathWord path_symbols v → IsPathWord path_symbols w →
      after v ≡ after w → (q : ℕ) → part_reach q v ↔ part_reach q w
