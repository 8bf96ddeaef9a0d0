use Rattle.std.proofs.Common.{[]}
use Rattle.rela_graph.specs.Spread.{Adds}
use Rattle.rela_graph.specs.Topology.{HasEdge}
use Rattle.rela_graph.proofs.Arriving.{both_then}
use Rattle.rela_graph.proofs.Cycling.{reached, among}
use Rattle.rela_graph.proofs.graph.Graph.returns_to.Goals as goal

pub returns : goal.returns
returns c =
    let g = c.args.self.now in
    let first = c.add_next.new.set.nodes in
    let adds : Adds (HasEdge g c.args.n) [] first = rw c.in_ok-reached.ensures.empty at c.in_ok-add_next.ensures.adds in
    both_then (among c.members.result.now c.args.n c.contains.result c.contains.ensures.value)
    (both_then (rw c.members.ensures.members (c.in_ok-spread.ensures.spreads c.args.n))
    (reached g c.args.n first adds c.args.n))
