-- The words over some letters that an automaton accepts, by a deterministic one.
use Rattle.std.specs.Prelude.{◌≡◌, ℕ, ◌↔◌, Bool, List}
use Rattle.rela_nfa.specs.Automaton.{Automaton}
use Rattle.rela_nfa.specs.Runs.{Accepts}
use Rattle.rela_subset.specs.Deterministic.{Deterministic, IsAccepted, IsOver, state_after}
use Rattle.rela_subset.specs.Subsets.{KeepsApart, ReachSame}

-- it accepts these words; words that reach the same states lead to one state of it, and words that lead to
-- different ones reach different states
pub record IsLeast (over : List Bool) (a : Automaton) (d : Deterministic) : Type 0 where
  pub over_is : d.over ≡ over
  pub language : (w : List ℕ) → IsAccepted d w ↔ (IsOver over w × Accepts a w)
  pub alike : (v w : List ℕ) → IsOver over v → IsOver over w → ReachSame a v w → state_after d v
      ≡ state_after d w
  pub told : KeepsApart a over d
