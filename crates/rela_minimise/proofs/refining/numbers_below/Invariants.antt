use Rattle.std.proofs.Common.{◌≡◌, ℕ, ◌<◌, length, get_or}
use Rattle.rela_minimise.proofs.refining.numbers_below.Given as goal

abbrev pub invariant-loop-q : goal.invariant-loop-q
invariant-loop-q l = record { each : length l.numbers.items ≡ l.q; own : (q : ℕ) → q < l.q → get_or l.numbers.items q 0 ≡ q }
