use Rattle.std.proofs.Common.{◌≡◌, ℕ, ◌<◌, get_or, length}
use Rattle.rela_plan.proofs.alike.own_numbers.Given as goal

-- the numbers so far
abbrev pub invariant-loop-n : goal.invariant-loop-n
invariant-loop-n l = record {
  len : length l.own.items ≡ l.n;
  each : (k : ℕ) → k < l.n → get_or l.own.items k 0 ≡ k;
}
