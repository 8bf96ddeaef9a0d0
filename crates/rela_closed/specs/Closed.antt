-- Lists of words that are closed for some automata: what one letter more reaches is listed.
use Rattle.std.specs.Prelude.{◌≡◌, ℕ, ◌<◌, Bool, true, false, IsTrue, List, [], ◌∷◌, ◌++◌, length, slice_get, slice_index_or, Some, Contains, ◌↔◌}
use Rattle.std.specs.List.{All, AllPairs}
use Rattle.rela_labels.specs.Letters.{has}
use Rattle.rela_nfa.specs.Automaton.{Automaton}
use Rattle.rela_nfa.specs.Runs.{Accepts}
use Rattle.rela_build.specs.Complement.{IsOver, ReachApart, ReachSame}

-- both words reach the same states of each automaton
abbrev pub SameStates : List Automaton → List ℕ → List ℕ → Type 0
SameStates automata v w = All (λ a. ReachSame a v w) automata

-- some state of one of the automata is reached by just one of the two words
abbrev pub AreApart : List Automaton → List ℕ → List ℕ → Type 0
AreApart automata v w = (a : Automaton) × Contains automata a × ReachApart a v w

-- a listed word reaches the same states as the word
abbrev pub IsListed : List Automaton → List (List ℕ) → List ℕ → Type 0
IsListed automata words word = (v : List ℕ) × Contains words v × SameStates automata v word

-- each listed word with one of the letters behind it reaches the same states as a listed word
abbrev pub IsClosed : List Bool → List Automaton → List (List ℕ) → Type 0
IsClosed over automata words = (word : List ℕ) (k : ℕ) → Contains words word → has over k ≡ true →
    IsListed automata words (word ++ k ∷ [])

-- words over the letters reach at least n lists of sets of states: n of these words are apart, each two of them
pub record ReachSets (over : List Bool) (automata : List Automaton) (n : ℕ) : Type 0 where
  pub words : List (List ℕ)
  pub count : length words ≡ n
  pub letters : All (IsOver over) words
  pub apart : AllPairs (AreApart automata) words

-- the word is over the letters, and reaches the same states as the other
abbrev pub ReachesLike : List Bool → List Automaton → List ℕ → List ℕ → Type 0
ReachesLike over automata word v = IsOver over v × SameStates automata v word

-- for each automaton and each word whether the automaton accepts the word
pub record AreAccepted (automata : List Automaton) (words : List (List ℕ))
    (accepted : List (List Bool)) : Type 0 where
  pub each : length accepted ≡ length automata
  pub flags : (n : ℕ) (a : Automaton) → slice_get automata n ≡ Some a
      → length (slice_index_or accepted n []) ≡ length words
  pub accepts : (n i : ℕ) (a : Automaton) → slice_get automata n ≡ Some a → i < length words →
      IsTrue (slice_index_or (slice_index_or accepted n []) i false)
      ↔ Accepts a (slice_index_or words i [])

-- each listed word that a accepts is accepted by b
abbrev pub AreIncludedOn : List (List ℕ) → Automaton → Automaton → Type 0
AreIncludedOn words a b = All (λ word. Accepts a word → Accepts b word) words

-- each listed word is accepted by both or by neither
abbrev pub AreEqualOn : List (List ℕ) → Automaton → Automaton → Type 0
AreEqualOn words a b = All (λ word. Accepts a word ↔ Accepts b word) words
