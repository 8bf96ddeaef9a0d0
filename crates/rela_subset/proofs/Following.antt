-- The states that follow those of a set by a letter.
use Rattle.std.proofs.Common.{ℕ, ◌↔◌, List}
use Rattle.std.specs.List.{Contains}
use Rattle.rela_nfa.specs.Automaton.{Automaton}
use Rattle.rela_nfa.specs.Reading.{SilentlyFrom}
use Rattle.rela_nfa.specs.StateSet.{Lists}
use Rattle.rela_subset.specs.Sets.{NextFrom, StepFrom}

-- the numbers of a set that is told in two ways
pub lists_same : (P Q : ℕ → Type 0) (set : List ℕ) → ((q : ℕ) → P q ↔ Q q) → Lists P set → Lists Q set
lists_same P Q set same is = record { ordered = is.ordered; members = λ q. (λ c. (same q).0 ((is.members q).0 c), λ holds. (is.members q).1 ((same q).1 holds)) }

-- silent edges lead on from the ends of the edges by the letter
pub next_from : (a : Automaton) (set ends now : List ℕ) (letter : ℕ) → ((q : ℕ) → Contains ends q ↔ StepFrom a set letter q) → ((q : ℕ) → Contains now q ↔ SilentlyFrom a ends q)
    → (q : ℕ) → Contains now q ↔ NextFrom a set letter q
next_from a set ends now letter steps closed q = (
  λ c. let (p, among, silent) = (closed q).0 c in (p, (steps p).0 among, silent),
  λ (p, step, silent). (closed q).1 (p, (steps p).1 step, silent),
)
