use Rattle.std.proofs.Common.{◌≤◌, length}
use Rattle.std.specs.List.{All}
use Rattle.rela_graph.specs.Topology.{JoinsNodes}
use Rattle.rela_graph_tests.proofs.graphs.links.Given as goal

-- the edges so far
abbrev pub invariant-loop-a : goal.invariant-loop-a
invariant-loop-a l = record {
  joins : All (JoinsNodes l.count) l.links.items;
  few : length l.links.items ≤ l.a-index;
}
