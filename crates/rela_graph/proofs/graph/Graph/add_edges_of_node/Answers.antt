use Rattle.std.proofs.Common.{◌+◌, length, map, ap}
use Rattle.rela_nfa.specs.Stored.{move_of}
use Rattle.rela_graph.proofs.Unrolling.{node_leads}
use Rattle.rela_graph.proofs.graph.Graph.add_edges_of_node.Goals as goal

pub returns : goal.returns
returns g c =
    let moves = map (move_of g.L.LabelSet.letters) in
    node_leads c.args.self.now c.args.letters.now c.requires.letters c.args.n c.edges_from.result.now c.edges_from.ensures.each c.edges_from.ensures.all c.is_drop_node.result
    c.args.is_cyclic c.is_drop_node.ensures c.requires.cyclic (1 + length c.nodes.result.now) (ap (λ nodes. 1 + length nodes) c.nodes.ensures.nodes) (moves c.add_along.new.edges.items)
    (moves c.add_if.new.edges.items) (moves c.add_if-2.new.edges.items) c.in_ok-add_along.ensures c.in_ok-add_if.ensures c.in_ok-add_if-2.ensures
