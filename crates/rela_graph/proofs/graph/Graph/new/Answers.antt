use Rattle.std.proofs.Common.{◌≡◌, length, get_or, rules}
use Rattle.std.proofs.lemmas.List.Elements.{All-contains, Contains-get_or}
use Rattle.rela_graph.specs.Topology.{Topology, IsTopology, JoinsNodes}
use Rattle.rela_graph.specs.Adjacency.{IsIndexed}
use Rattle.rela_graph.proofs.graph.Graph.new.Goals as goal

-- what was built
abbrev graph : goal.In_ok-dropped → Topology
graph c = record {
  nodes = c.args.nodes.items;
  edges = c.in_ok-edges.edges.items;
  starts = c.in_ok-starts.starts.items;
  delivered = c.in_ok-delivered.delivered.items;
  dropped = c.in_ok-dropped.dropped.items;
}

is_topology : (c : goal.In_ok-dropped) → IsTopology (graph c)
is_topology c = record {
  few_nodes = c.requires.few_nodes;
  few_edges = let few = c.in_ok-edges.ensures.few in let all = c.requires.few_edges in search rules;
  joins = λ k d within.
      let link = get_or c.in_ok-edges.edges.items k d in
      All-contains (JoinsNodes (length c.args.nodes.items)) c.args.edges.now link c.requires.edges_join
      ((c.in_ok-edges.ensures.same link).0 (Contains-get_or c.in_ok-edges.edges.items k d within));
  starts = search rules;
  delivered = search rules;
  dropped = search rules;
}

pub invariant_of-result : goal.invariant_of-result
invariant_of-result c = record {
  is_topology = is_topology c;
  ordered = c.in_ok-edges.ensures.ordered;
  indexed =
      let count : c.len-count.result ≡ length c.args.nodes.items = search rules in
      let known : IsIndexed c.len-count.result c.in_ok-edges.edges.items c.in_ok-offsets.offsets.items = rw c.deref.ensures.value at c.in_ok-offsets.ensures in
      rw count at known;
}

pub returns-clause-topology : goal.returns-clause-topology
returns-clause-topology c = is_topology c

pub returns-clause-edges : goal.returns-clause-edges
returns-clause-edges c a b = c.in_ok-edges.ensures.same (record { a = a; b = b })
