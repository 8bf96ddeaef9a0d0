use Rattle.std.proofs.Common.{ℕ, ◌<◌}
use Rattle.rela_reduce.specs.Bits.{HasBit}
use Rattle.rela_reduce.specs.Simulation.{IsLowered}
use Rattle.rela_reduce.specs.Stored.{lists_of}
use Rattle.rela_reduce.proofs.Lowering.{IsLed}
use Rattle.rela_reduce.proofs.widening.add_others.Given as goal

abbrev pub invariant-loop-q : goal.invariant-loop-q
invariant-loop-q l = record {
  lowered : IsLowered (lists_of l.relation) l.states l.p l.initial.list.items l.list.items;
  leads : (q : ℕ) → q < l.q → HasBit (lists_of l.relation) l.p q → IsLed (lists_of l.relation) l.states l.p l.covered l.list.items q;
}
