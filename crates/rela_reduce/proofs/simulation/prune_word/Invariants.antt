use Rattle.std.proofs.Common.{◌≡◌, ℕ, ◌<◌, ◌≤◌, ◌*◌, false}
use Rattle.rela_reduce.specs.Bits.{HasBit}
use Rattle.rela_reduce.specs.Simulation.{GoesByRows}
use Rattle.rela_reduce.specs.Stored.{lists_of, plain}
use Rattle.rela_reduce.proofs.simulation.prune_word.Given as goal

abbrev pub invariant-loop-q : goal.invariant-loop-q
invariant-loop-q l = record {
  same : l.cleared ≡ false → l.relation ≡ l.initial.relation;
  along : l.cleared ≡ false → (q : ℕ) → q < l.q → 64 * l.place ≤ q → HasBit (lists_of l.initial.relation) l.p q
      → GoesByRows (plain l.whole) l.closed.finals.items (lists_of l.initial.relation) (lists_of l.answers) l.p q;
}
