-- Sets of states, as lists in ascending order.
use Rattle.std.specs.Prelude.{◌≡◌, ◌≢◌, ℕ, ◌+◌, ◌<◌, ◌⊎◌, ◌↔◌, Bool, false, true, IsTrue, not, List, [], ◌∷◌, ◌++◌, length, slice_index_or, count_by, Contains, Some, nat_eq}
use Rattle.std.specs.List.{IsDistinct}
use Rattle.std.specs.List.Sorted.{IsStrictlySortedBy}
use Rattle.std.specs.Ordering.{nat_cmp}
use Rattle.rela_letter_nfa.specs.LetterAutomaton.{LetterAutomaton}
use Rattle.rela_letter_nfa.specs.Runs.{Step, Follow, HasStep, spelled}

-- the numbers of P, each once, in ascending order
pub record Lists (P : ℕ → Type 0) (set : List ℕ) : Type 0 where
  pub ordered : IsStrictlySortedBy nat_cmp set
  pub members : (q : ℕ) → Contains set q ↔ P q

-- some steps lead from p to q and spell the word
abbrev pub Leads : LetterAutomaton → ℕ → List ℕ → ℕ → Type 0
Leads a p word q = (steps : List Step) × Follow a p steps q × (spelled steps ≡ word)

-- the word leads from one of the states to q
abbrev pub LeadsFrom : LetterAutomaton → List ℕ → List ℕ → ℕ → Type 0
LeadsFrom a starts word q = (p : ℕ) × Contains starts p × Leads a p word q

-- an edge by the letter leads from one of the states to q
abbrev pub StepFrom : LetterAutomaton → List ℕ → ℕ → ℕ → Type 0
StepFrom a set letter q = (p : ℕ) × Contains set p × HasStep a p (Some letter) q

-- an edge by the letter and then silent steps lead from one of the states to q
abbrev pub NextFrom : LetterAutomaton → List ℕ → ℕ → ℕ → Type 0
NextFrom a set letter q = (p : ℕ) × StepFrom a set letter p × Leads a p [] q

-- no set stands twice
abbrev pub AreDistinct : List (List ℕ) → Type 0
AreDistinct sets = (i j : ℕ) → i < j → j < length sets → slice_index_or sets i []
    ≢ slice_index_or sets j []

-- the set is among the old ones, or it is new and stands behind them
abbrev pub Enters : List ℕ → List (List ℕ) → List (List ℕ) → Bool → Type 0
Enters set old new false = (new ≡ old) × Contains old set
Enters set old new true = new ≡ old ++ set ∷ []

-- the flag is set for n, which it is for no number past the last
abbrev pub HasFlag : List Bool → ℕ → Type 0
HasFlag flags n = IsTrue (slice_index_or flags n false)

-- states that were visited, and the number below which they lie
pub record Members : Type 0 where
  pub count : ℕ
  pub states : List ℕ

-- the flags of just the states are set, and no state stands twice
pub record AreMarked (flags : List Bool) (states : List ℕ) : Type 0 where
  pub set : (n : ℕ) → HasFlag flags n ↔ Contains states n
  pub once : length states + count_by not flags ≡ length flags
  pub distinct : IsDistinct nat_eq states

-- new is old with n put in at the end, unless old has it
abbrev pub Inserts : List ℕ → List ℕ → ℕ → Type 0
Inserts old new n = Contains new n × ((new ≡ old) ⊎ (new ≡ old ++ n ∷ []))

-- new is old, and then just those states of P that old lacks
pub record Adds (P : ℕ → Type 0) (old new : List ℕ) : Type 0 where
  pub longer : (more : List ℕ) × (new ≡ old ++ more)
  pub each : (m : ℕ) → Contains new m → Contains old m ⊎ P m
  pub all : (m : ℕ) → P m → Contains new m
