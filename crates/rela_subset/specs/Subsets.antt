-- The sets of states that words reach.
use Rattle.std.specs.Prelude.{◌≡◌, ◌≢◌, ℕ, ◌⊎◌, ◌↔◌, Bool, List, length}
use Rattle.std.specs.List.{All, AllPairs}
use Rattle.rela_nfa.specs.Automaton.{Automaton}
use Rattle.rela_nfa.specs.Runs.{Reach}
use Rattle.rela_nfa.specs.StateSet.{Lists}
use Rattle.rela_names.specs.Shortlex.{IsBefore}
use Rattle.rela_subset.specs.Deterministic.{Deterministic, IsOver, state_after}
use Rattle.rela_subset.specs.Sets.{ReachedBy}

-- the two words reach the same states
abbrev pub ReachSame : Automaton → List ℕ → List ℕ → Type 0
ReachSame a v w = (q : ℕ) → Reach a q v ↔ Reach a q w

-- some state is reached by one of the two words alone
abbrev pub AreApart : Automaton → List ℕ → List ℕ → Type 0
AreApart a v w = (q : ℕ) × ((Reach a q v × ¬ Reach a q w) ⊎ (Reach a q w × ¬ Reach a q v))

-- words over the letters that lead to different states are apart
abbrev pub KeepsApart : Automaton → List Bool → Deterministic → Type 0
KeepsApart a over d = (v w : List ℕ) → IsOver over v → IsOver over w → state_after d v
    ≢ state_after d w → AreApart a v w

-- words over the letters reach at least n sets of states: n of these words are apart, each two of them
pub record ReachSets (a : Automaton) (over : List Bool) (n : ℕ) : Type 0 where
  pub words : List (List ℕ)
  pub count : length words ≡ n
  pub letters : All (IsOver over) words
  pub apart : AllPairs (AreApart a) words

-- the set of the states that the word reaches has the property
abbrev pub LeadsInto : Automaton → (List ℕ → Type 0) → List ℕ → Type 0
LeadsInto a P word = (set : List ℕ) × Lists (ReachedBy a word) set × P set

-- the word is over the letters, and the set of the states that it reaches is wanted
abbrev pub IsWantedWord : Automaton → List Bool → (List ℕ → Type 0) → List ℕ → Type 0
IsWantedWord a over wants word = IsOver over word × LeadsInto a wants word

-- the word leads to a set that is not wanted
abbrev pub IsUnwantedWord : Automaton → (List ℕ → Type 0) → List ℕ → Type 0
IsUnwantedWord a wants word = LeadsInto a (λ set. ¬ wants set) word

-- words over the letters reach at least n sets of states, and none of these words comes after a wanted one: each
-- word over the letters that is before one of them leads to a set that is not wanted
pub record ReachSetsBefore (a : Automaton) (over : List Bool) (wants : List ℕ → Type 0)
    (n : ℕ) : Type 0 where
  pub sets : ReachSets a over n
  pub early : All (λ w. (v : List ℕ) → IsOver over v → IsBefore v w →
      IsUnwantedWord a wants v) sets.words
