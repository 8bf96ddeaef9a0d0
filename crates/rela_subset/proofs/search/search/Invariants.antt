use Rattle.std.proofs.Common.{◌≡◌, ◌≤◌, ◌-◌, [], length}
use Rattle.rela_subset.specs.Searching.{AreUnwanted, IsSearched}
use Rattle.rela_subset.proofs.search.search.Given as goal

abbrev pub invariant-loop-number : goal.invariant-loop-number
invariant-loop-number g l = record {
  searched : IsSearched l.a (g.L.LabelSet.letters l.over) [] l.sets l.arrivals.items l.number;
  same : l.outgoing.automaton ≡ l.a;
  count : l.visited.count ≡ l.fn.visited.count;
  few : length l.sets ≤ l.limit;
  unwanted : AreUnwanted (g.W.Wanted.wants l.wanted) l.sets;
}

abbrev pub decreases-loop-number : goal.decreases-loop-number
decreases-loop-number g l = l.limit - l.number
