use Rattle.std.proofs.Common.{◌≡◌, ◌<◌, length}
use Rattle.std.specs.List.{All}
use Rattle.rela_reduce.specs.Simulation.{Silently}
use Rattle.rela_reduce.specs.Stored.{lists_of}
use Rattle.rela_reduce.proofs.closed.silent_ends.Given as goal

abbrev pub invariant-loop-done : goal.invariant-loop-done
invariant-loop-done l = record {
  count : length l.flags.items ≡ length l.whole.finals.items;
  silent : All (Silently (lists_of l.whole.arrows.items) l.p) l.ends.items;
  states : All (λ q. q < length l.whole.finals.items) l.ends.items;
}
