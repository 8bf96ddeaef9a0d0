-- Deterministic automata over symbols as data, and which of them is the minimal one of a set of words.
use Rattle.std.specs.Prelude.{◌≡◌, ℕ, ◌<◌, ◌↔◌, Bool, false, IsTrue, List, [], ◌∷◌, All, length, slice_index, slice_index_or}
use Rattle.rela_names.specs.Shortlex.{IsBefore}
use Rattle.rela_rir.specs.Meaning.{IsPathWord}

-- for each state whether it accepts, and the state to which each symbol leads from it; words are read from state 0
pub record SymbolAutomaton : Type 0 where
  pub accepts : List Bool
  pub rows : List (List ℕ)

-- the number of states
abbrev pub size : SymbolAutomaton → ℕ
size a = length a.accepts

-- the state to which each symbol leads from q
abbrev pub row_of : SymbolAutomaton → ℕ → List ℕ
row_of a q = slice_index_or a.rows q []

-- the state to which the word leads from q
abbrev pub led_from : SymbolAutomaton → ℕ → List ℕ → ℕ
led_from a q [] = q
led_from a q (s ∷ rest) = led_from a (slice_index (row_of a q) s) rest

-- the word leads from q to a state that accepts
abbrev pub AcceptsFrom : SymbolAutomaton → ℕ → List ℕ → Type 0
AcceptsFrom a q word = IsTrue (slice_index_or a.accepts (led_from a q word) false)

-- the word is of the symbols below the number, and leads from the start to q
abbrev pub LeadsTo : ℕ → SymbolAutomaton → ℕ → List ℕ → Type 0
LeadsTo symbols a q word = IsPathWord symbols word × (led_from a 0 word ≡ q)

-- from the two states the same words of these symbols are accepted
abbrev pub AcceptSame : ℕ → SymbolAutomaton → ℕ → ℕ → Type 0
AcceptSame symbols a p q = (word : List ℕ) → IsPathWord symbols word → AcceptsFrom a p word ↔
    AcceptsFrom a q word

-- there is a start, and from each state each of the symbols leads to a state
pub record IsComplete (symbols : ℕ) (a : SymbolAutomaton) : Type 0 where
  pub start : 0 < size a
  pub each : length a.rows ≡ size a
  pub symbols_of : (q : ℕ) → q < size a → length (row_of a q) ≡ symbols
  pub states_of : (q : ℕ) → q < size a → All (λ to. to < size a) (row_of a q)

-- It is complete, accepts just these words of the symbols, and each of its states is reached. No two of its states
-- accept the same words, and they are numbered as words first arrive at them, in shortlex order.
pub record IsMinimalOf (symbols : ℕ) (words : List ℕ → Type 0)
    (a : SymbolAutomaton) : Type 0 where
  pub complete : IsComplete symbols a
  pub language : (word : List ℕ) → IsPathWord symbols word → AcceptsFrom a 0 word ↔ words word
  pub reached : (q : ℕ) → q < size a → (word : List ℕ) × LeadsTo symbols a q word
  pub apart : (p q : ℕ) → p < size a → q < size a → AcceptSame symbols a p q → p ≡ q
  pub arrival : (p q : ℕ) (word : List ℕ) → p < q → LeadsTo symbols a q word → (earlier : List ℕ)
      × LeadsTo symbols a p earlier × IsBefore earlier word
