use Rattle.std.proofs.Common.{◌≡◌, length}
use Rattle.rela_trans.specs.Machine.{machine_states}
use Rattle.rela_trans.specs.Stored.{lists_of}
use Rattle.rela_trans.proofs.Coaccessible.{AreTurned}
use Rattle.rela_trans.proofs.leading.predecessors.Given as goal

abbrev pub invariant-loop-p : goal.invariant-loop-p
invariant-loop-p g l = record {
  each : length l.lists.items ≡ machine_states l.transducer;
  turned : AreTurned l.transducer l.p (lists_of l.lists.items);
}
