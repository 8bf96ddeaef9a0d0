use Rattle.std.proofs.Common.{◌≡◌, ℕ, ◌<◌, ◌/◌, false, length}
use Rattle.rela_reduce.specs.Bits.{HasBit}
use Rattle.rela_reduce.specs.Simulation.{GoesByRows}
use Rattle.rela_reduce.specs.Stored.{lists_of, plain}
use Rattle.rela_reduce.proofs.simulation.prune_row.Given as goal

abbrev pub invariant-loop-place : goal.invariant-loop-place
invariant-loop-place l = record {
  same : l.cleared ≡ false → l.relation ≡ l.initial.relation;
  along : l.cleared ≡ false → (q : ℕ) → q < length l.whole.finals.items → q / 64 < l.place → HasBit (lists_of l.initial.relation) l.p q
      → GoesByRows (plain l.whole) l.closed.finals.items (lists_of l.initial.relation) (lists_of l.answers) l.p q;
}
