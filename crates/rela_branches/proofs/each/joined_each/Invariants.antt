use Rattle.std.proofs.Common.{◌≡◌, ℕ, ◌<◌, length}
use Rattle.rela_branches.specs.Places.{AreJoined}
use Rattle.rela_branches.proofs.Eaches.{at}
use Rattle.rela_branches.proofs.each.joined_each.Given as goal

abbrev pub invariant-loop-at : goal.invariant-loop-at
invariant-loop-at l = record {
  long : length l.all.items ≡ l.at;
  each : (k : ℕ) → k < l.at → AreJoined l.bound (at l.first k) (at l.second k) (at l.all.items k);
}
