use Rattle.std.proofs.Common.{ℕ, IsTrue}
use Rattle.rela_reduce.specs.Bits.{bit_of}
use Rattle.rela_reduce.specs.Simulation.{IsCovered, IsLowered}
use Rattle.rela_reduce.specs.Stored.{lists_of}
use Rattle.rela_reduce.proofs.widening.add_earlier.Given as goal

abbrev pub invariant-loop-later : goal.invariant-loop-later
invariant-loop-later l = record {
  lowered : IsLowered (lists_of l.relation) l.states l.p l.initial.list.items l.list.items;
  covered : (q : ℕ) → IsTrue (bit_of l.covered q) → IsCovered (lists_of l.relation) l.earlier l.list.items q;
}
