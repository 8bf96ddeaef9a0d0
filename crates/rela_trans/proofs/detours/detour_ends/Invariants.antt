use Rattle.std.proofs.Common.{◌≡◌, ℕ, ◌<◌, length}
use Rattle.rela_trans.specs.Detours.{IsPassed}
use Rattle.rela_trans.proofs.Detouring.{AreEnds}
use Rattle.rela_trans.specs.Machine.{machine_states}
use Rattle.rela_trans.proofs.detours.detour_ends.Given as goal

abbrev pub invariant-loop-q : goal.invariant-loop-q
invariant-loop-q g l = record {
  count : length l.flags.items ≡ machine_states l.transducer;
  ends : AreEnds l.transducer l.flags.items l.ends.items;
  passed : (p : ℕ) → p < l.q → IsPassed l.flags.items p;
}
