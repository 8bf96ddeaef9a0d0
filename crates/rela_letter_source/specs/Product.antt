-- What an automaton with one letter on each edge, and a transducer that reads its words and writes a given one, do together.
use Rattle.std.specs.Prelude.{◌≡◌, ℕ, ◌+◌, ◌⊎◌, ◌↔◌, List, [], ◌∷◌, Option, None, Some, length, slice_get}
use Rattle.rela_letter_nfa.specs.LetterAutomaton.{LetterAutomaton, IsFinal}
use Rattle.rela_letter_nfa.specs.Runs.{HasStep}
use Rattle.rela_trans.specs.Machine.{Machine, IsFinal as IsFinalMachine}
use Rattle.rela_trans.specs.Runs.{HasStep as HasMove}
use Rattle.rela_letter_source.specs.Steps.{standing}
use Rattle.rela_letter_source.specs.declared.configuration.Configuration.{Configuration}

-- the letters stand in the word from place n on, up to place m
abbrev pub StandsAt : List ℕ → ℕ → List ℕ → ℕ → Type 0
StandsAt word n [] m = n ≡ m
StandsAt word n (k ∷ output) m = (slice_get word n ≡ Some k) × StandsAt word (n + 1) output m

-- the transducer reads this much, and writes the letters of the word that come next
abbrev pub Moves : (ℕ → ℕ) → Machine → List ℕ → Configuration → List ℕ → Configuration → Type 0
Moves read t word x input y = (output : List ℕ) × HasMove read t x.machine input output y.machine
    × StandsAt word x.written output y.written

-- the automaton goes silently while the transducer stays
abbrev pub GoesSilently : LetterAutomaton → Configuration → Configuration → Type 0
GoesSilently a x y = HasStep a x.path None y.path × (x.machine ≡ y.machine) × (x.written ≡ y.written)

-- the transducer goes alone, and reads nothing
abbrev pub GoesAlone : (ℕ → ℕ) → Machine → List ℕ → Configuration → Configuration → Type 0
GoesAlone read t word x y = (x.path ≡ y.path) × Moves read t word x [] y

-- the automaton goes by the letter, which the transducer reads
abbrev pub GoTogether : (ℕ → ℕ) → LetterAutomaton → Machine → List ℕ → Configuration → ℕ →
    Configuration → Type 0
GoTogether read a t word x k y = HasStep a x.path (Some k) y.path × Moves read t word x (k ∷ []) y

-- the two go from one configuration to another, and read the letter, if there is one
abbrev pub Goes : (ℕ → ℕ) → LetterAutomaton → Machine → List ℕ → Configuration → Option ℕ →
    Configuration → Type 0
Goes read a t word x None y = GoesSilently a x y ⊎ GoesAlone read t word x y
Goes read a t word x (Some k) y = GoTogether read a t word x k y

-- both states are final, and all has been written
abbrev pub IsEnd : LetterAutomaton → Machine → List ℕ → Configuration → Type 0
IsEnd a t word x = IsFinal a x.path × IsFinalMachine t x.machine × (x.written ≡ length word)

-- the states of r are these configurations, from each of which it goes as the two do, by what they read
pub record IsProduct (read : ℕ → ℕ) (a : LetterAutomaton) (t : Machine) (word : List ℕ)
    (found : List Configuration) (r : LetterAutomaton) : Type 0 where
  pub starts : slice_get found r.start ≡ Some (standing a.start t.start 0)
  pub final : (p : ℕ) (x : Configuration) → slice_get found p ≡ Some x → IsFinal r p ↔ IsEnd a t word x
  pub only : (p q : ℕ) (x : Configuration) (letter : Option ℕ) → slice_get found p ≡ Some x →
      HasStep r p letter q →
      (y : Configuration) × (slice_get found q ≡ Some y) × Goes read a t word x letter y
  pub all : (p : ℕ) (x y : Configuration) (letter : Option ℕ) → slice_get found p ≡ Some x →
      Goes read a t word x letter y → (q : ℕ) × (slice_get found q ≡ Some y) × HasStep r p letter q
