use Rattle.std.proofs.Common.{◌≡◌, ◌≤◌, ◌-◌, length}
use Rattle.rela_graph.proofs.Growing.{Spreads}
use Rattle.rela_graph.proofs.graph.Graph.spread.Given as goal

abbrev pub invariant-loop-done : goal.invariant-loop-done
invariant-loop-done l = record {
  done : l.done ≤ length l.set.nodes;
  count : l.set.count ≡ l.fn.set.count;
  spreads : Spreads l.self l.done l.fn.set.nodes l.set.nodes;
}

abbrev pub decreases-loop-done : goal.decreases-loop-done
decreases-loop-done l = l.set.count - l.done
