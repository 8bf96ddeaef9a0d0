use Rattle.std.proofs.Common.{◌≡◌, ◌+◌, ◌≤◌, length}
use Rattle.rela_nfa.specs.Automaton.{states}
use Rattle.rela_witness.specs.Numbered.{unnumbered}
use Rattle.rela_witness.proofs.Searching.{Searching}
use Rattle.rela_witness.proofs.distances.distances.Given as goal

abbrev pub invariant-loop-alloc : goal.invariant-loop-alloc
invariant-loop-alloc g l = record {
  count : length l.numbers.items ≡ states l.a;
  few : l.distance + length l.layer.items + unnumbered l.numbers.items ≤ states l.a;
  search : Searching l.a l.distance l.numbers.items l.layer.items;
}

abbrev pub decreases-loop-alloc : goal.decreases-loop-alloc
decreases-loop-alloc g l = length l.layer.items + unnumbered l.numbers.items
