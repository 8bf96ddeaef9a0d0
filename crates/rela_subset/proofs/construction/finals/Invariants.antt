use Rattle.std.proofs.Common.{◌≡◌, ℕ, ◌<◌, ◌↔◌, false, [], length, get_or}
use Rattle.std.specs.Bool.{IsTrue}
use Rattle.rela_subset.specs.Sets.{HasFinal}
use Rattle.rela_subset.proofs.construction.finals.Given as goal

abbrev pub invariant-loop-i : goal.invariant-loop-i
invariant-loop-i g l = record {
  len : length l.flags.items ≡ l.i;
  each : (i : ℕ) → i < l.i → IsTrue (get_or l.flags.items i false) ↔ HasFinal l.a (get_or l.sets i []);
}
