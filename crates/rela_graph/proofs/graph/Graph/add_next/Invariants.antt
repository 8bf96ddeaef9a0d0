use Rattle.std.proofs.Common.{◌≡◌}
use Rattle.rela_graph.proofs.Growing.{Followed}
use Rattle.rela_graph.proofs.graph.Graph.add_next.Given as goal

abbrev pub invariant-loop-edge : goal.invariant-loop-edge
invariant-loop-edge l = record {
  count : l.set.count ≡ l.fn.set.count;
  followed : Followed l.self l.n l.edge-items l.edge-index l.fn.set.nodes l.set.nodes;
}
