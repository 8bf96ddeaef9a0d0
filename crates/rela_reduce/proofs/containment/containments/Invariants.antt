use Rattle.std.proofs.Common.{◌≡◌, length}
use Rattle.rela_reduce.specs.Simulation.{AreWithin}
use Rattle.rela_reduce.specs.Stored.{lists_of}
use Rattle.rela_reduce.proofs.containment.containments.Given as goal

abbrev pub invariant-loop-k : goal.invariant-loop-k
invariant-loop-k g l = record { each : length l.rows.items ≡ l.k; within : AreWithin l.labels (lists_of l.rows.items) }
