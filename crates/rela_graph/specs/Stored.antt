-- What the fields of a graph stand for.
use Rattle.std.specs.Prelude.{length}
use Rattle.std.specs.List.Sorted.{IsSorted}
use Rattle.rela_graph.specs.Adjacency.{IsIndexed, link_cmp}
use Rattle.rela_graph.specs.Topology.{Topology, IsTopology}
use Rattle.rela_graph.specs.declared.graph.Graph.TheInside.{Inside}

abbrev pub topology : Inside → Topology
topology g = record {
  nodes = g.nodes.items;
  edges = g.edges.items;
  starts = g.starts.items;
  delivered = g.delivered.items;
  dropped = g.dropped.items;
}

pub record IsStored (g : Inside) : Type 0 where
  pub is_topology : IsTopology (topology g)
  pub ordered : IsSorted link_cmp g.edges.items
  pub indexed : IsIndexed (length g.nodes.items) g.edges.items g.offsets.items
