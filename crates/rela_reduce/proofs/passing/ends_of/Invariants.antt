use Rattle.std.proofs.Common.{◌≡◌, ℕ, ◌<◌, length, get_or}
use Rattle.rela_nfa.specs.Automaton.{states}
use Rattle.rela_reduce.specs.Passing.{IsPast}
use Rattle.rela_reduce.proofs.passing.ends_of.Given as goal

abbrev pub invariant-loop-q : goal.invariant-loop-q
invariant-loop-q g l = record {
  each : length l.ends.items ≡ l.q;
  within : (q : ℕ) → q < l.q → get_or l.ends.items q 0 < states l.a;
  past : (q : ℕ) → q < l.q → IsPast l.a q (get_or l.ends.items q 0);
}
