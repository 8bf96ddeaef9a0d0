use Rattle.std.proofs.Common.{◌≡◌, ℕ, ◌<◌, get_or, length}
use Rattle.rela_plan.specs.Alike.{AreNumbered, LooksAs}
use Rattle.rela_plan.proofs.alike.alike_at.Given as goal

-- the numbers so far are those of flows that look the same
abbrev pub invariant-loop-n : goal.invariant-loop-n
invariant-loop-n l = record {
  len : length l.firsts.items ≡ l.n;
  each : (k : ℕ) → k < l.n → LooksAs l.level l.pairs k (get_or l.firsts.items k 0);
  numbered : AreNumbered l.level l.pairs l.numbers;
}
