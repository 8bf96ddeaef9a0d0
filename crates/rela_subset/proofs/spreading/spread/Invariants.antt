use Rattle.std.proofs.Common.{◌≡◌, [], get_or}
use Rattle.std.specs.List.{count_by}
use Rattle.rela_subset.specs.Outgoing.{AreSortedOut, moves_from}
use Rattle.rela_subset.proofs.SetsSpread.{Spreads}
use Rattle.rela_subset.proofs.spreading.spread.Given as goal

abbrev pub invariant-loop-blocks : goal.invariant-loop-blocks
invariant-loop-blocks g l = record {
  spreads : Spreads l.fn.outgoing.automaton (g.L.LabelSet.letters l.over) l.blocks.left l.number (get_or l.initial.sets l.number []) l.initial.sets l.sets l.initial.arrivals.items l.arrivals.items;
  count : l.visited.count ≡ l.fn.visited.count;
  sorted : AreSortedOut (moves_from l.fn.outgoing.automaton (get_or l.initial.sets l.number [])) l.blocks.singles l.blocks.others;
}

abbrev pub decreases-loop-blocks : goal.decreases-loop-blocks
decreases-loop-blocks g l = count_by (λ taken. taken) l.blocks.left
