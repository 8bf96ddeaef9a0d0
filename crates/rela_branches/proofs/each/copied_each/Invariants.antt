use Rattle.std.proofs.Common.{◌≡◌, ℕ, ◌<◌, length}
use Rattle.rela_branches.proofs.Eaches.{at}
use Rattle.rela_branches.proofs.each.copied_each.Given as goal

abbrev pub invariant-loop-set : goal.invariant-loop-set
invariant-loop-set l = record {
  long : length l.copies.items ≡ l.set-index;
  each : (k : ℕ) → k < l.set-index → at l.copies.items k ≡ at l.sets k;
}
