use Rattle.std.proofs.Common.{◌≡◌, ◌↔◌, ◌<◌, ℕ, IsTrue, false, get_or, length}
use Rattle.rela_nfa.specs.Automaton.{IsFinal}
use Rattle.rela_reduce.proofs.passing.finals_past.Given as goal

abbrev pub invariant-loop-q : goal.invariant-loop-q
invariant-loop-q g l = record {
  count : length l.finals.items ≡ l.q;
  finals : (q : ℕ) → q < l.q → get_or l.ends q 0 ≡ q → IsTrue (get_or l.finals.items q false) ↔ IsFinal l.a q;
}
