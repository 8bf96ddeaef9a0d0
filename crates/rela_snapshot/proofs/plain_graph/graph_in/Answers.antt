use Rattle.std.proofs.Common.{◌≡◌, length, rules}
use Rattle.rela_snapshot.proofs.PlainLaws.{graph_made, graph_read, listed_as}
use Rattle.rela_snapshot.proofs.plain_graph.graph_in.Goals as goal

pub returns-clause-graph : goal.returns-clause-graph
returns-clause-graph c =
    let g = c.in_ok-new.ensures in
    let count : c.len-count.result ≡ length c.in_ok-nodes.nodes.items = search rules in (
      listed_as c.in_ok-nodes.nodes.items c.in_ok-edges.edges.items c.in_ok-starts.starts.now c.in_ok-delivered.delivered.now c.in_ok-dropped.dropped.now,
      graph_read _ _ _ _ _ _ _ _ _ count c.in_ok-nodes.ensures.nodes c.in_ok-edges.ensures.edges (c.in_ok-starts.ensures.numbers 33 c.args.row) (c.in_ok-delivered.ensures.numbers 34 c.args.row) (c.in_ok-dropped.ensures.numbers 35 c.args.row),
      graph_made _ _ _ _ _ _ _ c.as_slice.ensures.value g.nodes g.edges g.starts g.delivered g.dropped,
    )
