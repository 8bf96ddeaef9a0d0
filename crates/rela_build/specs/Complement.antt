-- What a complement is, however it was made.
use Rattle.std.specs.Prelude.{◌≡◌, ◌≢◌, ℕ, ◌⊎◌, ◌↔◌, Bool, true, List}
use Rattle.std.specs.List.{All}
use Rattle.rela_labels.specs.Letters.{has}
use Rattle.rela_nfa.specs.Automaton.{Automaton, IsAutomaton}
use Rattle.rela_nfa.specs.Runs.{Reach, Accepts}

-- each letter of the word is in the set
abbrev pub IsOver : List Bool → List ℕ → Type 0
IsOver set word = All (λ k. has set k ≡ true) word

-- both words reach the same states
abbrev pub ReachSame : Automaton → List ℕ → List ℕ → Type 0
ReachSame a v w = (q : ℕ) → Reach a q v ↔ Reach a q w

-- some state is reached by just one of the two words
abbrev pub ReachApart : Automaton → List ℕ → List ℕ → Type 0
ReachApart a v w = (q : ℕ) × ((Reach a q v × (¬ Reach a q w)) ⊎ (Reach a q w × (¬ Reach a q v)))

-- r accepts the words over these letters that a doesn't. Each word over them leads to one state of it, and no other
-- word to any: words that reach the same states of a to the same one, and words that lead to different ones reach
-- different states of a.
pub record IsComplement (a : Automaton) (over : List Bool) (r : Automaton) : Type 0 where
  pub automaton : IsAutomaton r
  pub letters : r.letters ≡ a.letters
  pub after : List ℕ → ℕ
  pub reached : (q : ℕ) (w : List ℕ) → Reach r q w ↔ (IsOver over w × (after w ≡ q))
  pub alike : (v w : List ℕ) → IsOver over v → IsOver over w → ReachSame a v w → after v ≡ after w
  pub told : (v w : List ℕ) → IsOver over v → IsOver over w → after v ≢ after w → ReachApart a v w
  pub language : (w : List ℕ) → Accepts r w ↔ (IsOver over w × (¬ Accepts a w))

-- words that lead to one state of r reach the same states of a
abbrev pub TellsAll : Automaton → Automaton → Type 0
TellsAll a r = (q : ℕ) (v w : List ℕ) → Reach r q v → Reach r q w → ReachSame a v w
