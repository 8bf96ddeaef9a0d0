use Rattle.std.proofs.Common.{◌≡◌, ◌≤◌, ◌-◌, [], length}
use Rattle.rela_nfa.specs.Stored.{moves_in}
use Rattle.rela_subset.specs.Expansion.{IsExplored}
use Rattle.rela_subset.proofs.construction.explore.Given as goal

abbrev pub invariant-loop-alloc : goal.invariant-loop-alloc
invariant-loop-alloc g l = record {
  explored : IsExplored l.a (g.L.LabelSet.letters l.over) l.sets (moves_in g.L.LabelSet.letters l.edges.items);
  same : l.outgoing.automaton ≡ l.a;
  count : l.visited.count ≡ l.fn.visited.count;
  few : length l.sets ≤ l.limit;
  none : l.bundle ≡ [];
}

abbrev pub decreases-loop-alloc : goal.decreases-loop-alloc
decreases-loop-alloc g l = l.limit - length l.edges.items
