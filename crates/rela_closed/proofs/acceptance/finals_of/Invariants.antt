use Rattle.std.proofs.Common.{◌≡◌, ℕ, ◌<◌, ◌↔◌, false, [], length, get_or}
use Rattle.std.specs.Bool.{IsTrue}
use Rattle.rela_closed.specs.Sets.{HasFinal}
use Rattle.rela_closed.proofs.acceptance.finals_of.Given as goal

abbrev pub invariant-loop-number : goal.invariant-loop-number
invariant-loop-number g l = record {
  each : length l.flags.items ≡ l.number;
  final_states : (i : ℕ) → i < l.number → IsTrue (get_or l.flags.items i false) ↔ HasFinal l.a (get_or (get_or l.table i []) l.n []);
}
