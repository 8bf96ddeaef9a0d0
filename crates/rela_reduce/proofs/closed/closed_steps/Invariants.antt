use Rattle.std.proofs.Common.{◌≡◌, length}
use Rattle.rela_reduce.specs.Simulation.{AreClosed}
use Rattle.rela_reduce.specs.Stored.{lists_of, plain}
use Rattle.rela_reduce.proofs.closed.closed_steps.Given as goal

abbrev pub invariant-loop-p : goal.invariant-loop-p
invariant-loop-p l = record {
  steps : length l.steps.items ≡ l.p;
  finals : length l.finals.items ≡ l.p;
  closed : AreClosed (plain l.whole) (lists_of l.steps.items) l.finals.items;
}
