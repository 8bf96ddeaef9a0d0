use Rattle.std.proofs.Common.{◌≡◌, take, fold}
use Rattle.std.specs.Hash as fed
use Rattle.std.specs.List.{flat_map}
use Rattle.rela_graph.specs.Topology.{symbol_at}
use Rattle.rela_graph.proofs.outline.feed_places.Given as goal

-- the nodes so far were fed
abbrev pub invariant-loop-node : goal.invariant-loop-node
invariant-loop-node g l = l.state ≡ fold g.H.Hasher.write l.initial.state (flat_map (λ node. fed.u32 (symbol_at l.level node)) (take l.node-index l.nodes))
