use Rattle.std.proofs.Common.{◌≡◌, ℕ, IsTrue, false, length, get_or}
use Rattle.rela_reduce.specs.Simulation.{IsWithin}
use Rattle.rela_reduce.proofs.containment.containment.Given as goal

abbrev pub invariant-loop-l : goal.invariant-loop-l
invariant-loop-l g l = record {
  each : length l.row.items ≡ l.l;
  within : (m : ℕ) → IsTrue (get_or l.row.items m false) → IsWithin l.labels l.k m;
}
