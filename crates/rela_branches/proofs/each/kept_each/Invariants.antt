use Rattle.std.proofs.Common.{◌≡◌, ℕ, ◌<◌, length}
use Rattle.rela_branches.specs.Places.{AreKept}
use Rattle.rela_branches.proofs.Eaches.{at}
use Rattle.rela_branches.proofs.each.kept_each.Given as goal

abbrev pub invariant-loop-at : goal.invariant-loop-at
invariant-loop-at l = record {
  long : length l.all.items ≡ l.at;
  each : (k : ℕ) → k < l.at → AreKept l.bound l.common (at l.first k) (at l.second k) (at l.all.items k);
}
