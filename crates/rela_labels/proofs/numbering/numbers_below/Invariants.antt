use Rattle.std.proofs.Common.{◌≡◌, ℕ, ◌<◌, length, get_or}
use Rattle.rela_labels.proofs.numbering.numbers_below.Given as goal

abbrev pub invariant-loop-i : goal.invariant-loop-i
invariant-loop-i l = record { len : length l.numbers.items ≡ l.i; each : (k : ℕ) → k < l.i → get_or l.numbers.items k 0 ≡ k }
