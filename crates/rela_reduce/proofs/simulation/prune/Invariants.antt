use Rattle.std.proofs.Common.{◌≡◌, ℕ, ◌+◌, ◌<◌, ◌≤◌, false, length}
use Rattle.rela_reduce.specs.Bits.{HasBit}
use Rattle.rela_reduce.specs.Simulation.{GoesAlong}
use Rattle.rela_reduce.specs.Stored.{lists_of, plain}
use Rattle.rela_reduce.proofs.simulation.prune.Given as goal

abbrev pub invariant-loop-later : goal.invariant-loop-later
invariant-loop-later l = record {
  same : l.cleared ≡ false → l.relation ≡ l.initial.relation;
  along : l.cleared ≡ false → (p q : ℕ) → p < length l.whole.finals.items → length l.whole.finals.items ≤ p + l.later → q < length l.whole.finals.items
      → HasBit (lists_of l.initial.relation) p q
      → GoesAlong (plain l.whole) (lists_of l.closed.steps.items) l.closed.finals.items (lists_of l.within) (lists_of l.initial.relation) p q;
}
