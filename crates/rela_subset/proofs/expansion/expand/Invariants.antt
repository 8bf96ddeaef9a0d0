use Rattle.std.proofs.Common.{◌≡◌, ◌≤◌, [], get_or, length}
use Rattle.std.specs.List.{count_by}
use Rattle.rela_subset.specs.Expansion.{IsExpanded}
use Rattle.rela_subset.specs.Outgoing.{AreSortedOut, moves_from}
use Rattle.rela_subset.proofs.expansion.expand.Given as goal

abbrev pub invariant-loop-blocks : goal.invariant-loop-blocks
invariant-loop-blocks g l = record {
  expanded : IsExpanded l.fn.outgoing.automaton (g.L.LabelSet.letters l.over) l.blocks.left (get_or l.initial.sets l.number []) l.initial.sets l.sets l.bundle;
  few : length l.sets ≤ l.limit;
  count : l.visited.count ≡ l.fn.visited.count;
  size : length l.blocks.left ≡ length (g.L.LabelSet.letters l.over);
  sorted : AreSortedOut (moves_from l.fn.outgoing.automaton (get_or l.initial.sets l.number [])) l.blocks.singles l.blocks.others;
}

abbrev pub decreases-loop-blocks : goal.decreases-loop-blocks
decreases-loop-blocks g l = count_by (λ taken. taken) l.blocks.left
