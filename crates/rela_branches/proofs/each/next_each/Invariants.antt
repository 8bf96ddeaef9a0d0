use Rattle.std.proofs.Common.{◌≡◌, ℕ, ◌<◌, length}
use Rattle.rela_branches.specs.Places.{AreNext}
use Rattle.rela_branches.proofs.Eaches.{at}
use Rattle.rela_branches.proofs.each.next_each.Given as goal

abbrev pub invariant-loop-set : goal.invariant-loop-set
invariant-loop-set l = record {
  long : length l.to.items ≡ l.set-index;
  each : (k : ℕ) → k < l.set-index → AreNext l.rows (at l.from k) (at l.to.items k);
}
