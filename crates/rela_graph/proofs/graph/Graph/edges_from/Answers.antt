use Rattle.std.proofs.Common.{◌<◌, ◌≤◌, length}
use Rattle.rela_graph.proofs.Adjacent.{from_before_to, each_from, all_from}
use Rattle.rela_graph.proofs.graph.Graph.edges_from.Goals as goal

node : (c : goal.After-deref) → c.args.n < length c.self.inside.nodes.items
node c = rw (← c.self.view_is) at c.requires

in_order : (c : goal.After-deref) → c.index.result.now ≤ c.index-2.result.now
in_order c =
    from_before_to c.self.inside.edges.items c.self.inside.offsets.items (length c.self.inside.nodes.items) c.args.n c.index.result.now c.index-2.result.now
    c.self.invariant.indexed (node c) c.index.ensures c.index-2.ensures

pub slice_bounds-result-count : goal.slice_bounds-result-count
slice_bounds-result-count c = in_order c

pub slice_bounds-result-start : goal.slice_bounds-result-start
slice_bounds-result-start c = in_order c

pub returns-clause-each : goal.returns-clause-each
returns-clause-each c =
    rw (← c.self.view_is, c.deref.ensures.value)
    (each_from c.self.inside.edges.items c.self.inside.offsets.items (length c.self.inside.nodes.items) c.args.n c.index.result.now c.index-2.result.now
    c.self.invariant.indexed (rw (← c.self.view_is) at c.requires) c.index.ensures c.index-2.ensures c.self.invariant.is_topology.joins)

pub returns-clause-all : goal.returns-clause-all
returns-clause-all c =
    rw (← c.self.view_is, c.deref.ensures.value)
    (all_from c.self.inside.edges.items c.self.inside.offsets.items (length c.self.inside.nodes.items) c.args.n c.index.result.now c.index-2.result.now
    c.self.invariant.indexed (rw (← c.self.view_is) at c.requires) c.index.ensures c.index-2.ensures)
