use Rattle.std.proofs.Common.{◌≡◌, ◌++◌, map, take}
use Rattle.rela_graph.specs.Topology.{symbol_at}
use Rattle.rela_graph.proofs.node.push_locations.Given as goal

abbrev pub invariant-loop-node : goal.invariant-loop-node
invariant-loop-node l = l.locations.items ≡ l.fn.locations.items ++ map (symbol_at l.level) (take l.node-index l.nodes)
