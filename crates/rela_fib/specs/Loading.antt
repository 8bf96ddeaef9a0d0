-- What the text of a snapshot loads as.
use Rattle.std.specs.Prelude.{ℕ, List, codes, map, Ok, refl}
use Rattle.std.proofs.Common.{lit<, lit≤}
use Rattle.rela_flows.specs.Notation.{text_of}
use Rattle.rela_flows.specs.declared.prefix.Ipv4Prefix.{Ipv4Prefix}
use Rattle.rela_flows.specs.declared.prefix.Prefix.TheVariants.{V4}
use Rattle.rela_graph.specs.declared.node.Link.{Link}
use Rattle.rela_locations.specs.Network.{Network}
use Rattle.rela_snapshot.specs.FlowEntry.{ListedFlow}
use Rattle.rela_snapshot.specs.Listed.{Listed}
use Rattle.rela_snapshot.specs.Load.{Load}
use Rattle.rela_snapshot.specs.Nodes.{node_in}
use Rattle.rela_tables.specs.Forwarding.{Forwarding}
use Rattle.rela_fib.specs.Graph.{Graph}
use Rattle.rela_fib.specs.Snapshot.{IsDrawn}
use Rattle.rela_fib.specs.Text.{Drawn, Flow}

-- the prefix of all IPv4 addresses
abbrev pub everywhere : Ipv4Prefix
everywhere = record {
  address = 0;
  length = 0;
  address_fits = lit< tt;
  length_fits = lit≤ tt;
  host_bits_zero = refl;
}

abbrev pub link_of : ℕ × ℕ → Link
link_of edge = record { a = edge.0; b = edge.1 }

-- the graph, whose nodes stand at these interfaces
abbrev pub listed_graph : Network → List ℕ → List ℕ → Graph → Listed
listed_graph network nodes starts graph = record {
  nodes = map (node_in network) nodes;
  edges = map link_of graph.edges;
  starts = starts;
  delivered = graph.delivered;
  dropped = graph.dropped;
}

-- The flow of a class: the traffic from anywhere to the class, in the class `default`, with its graph.
abbrev pub listed_flow : Network → List ℕ → List ℕ → Flow → ListedFlow
listed_flow network nodes starts flow = record {
  class = record {
    name = text_of (V4 flow.class);
    dst = V4 flow.class;
    src = V4 everywhere;
    class = codes "default";
  };
  graph = listed_graph network nodes starts flow.graph;
}

abbrev pub listed_flows : Network → Drawn → List ListedFlow
listed_flows network d = map (listed_flow network d.nodes d.starts) d.flows

-- the text loads as the flows that two files give
abbrev pub LoadsAs : Network → Forwarding → Forwarding → List ℕ → Type 0
LoadsAs network f other text = (d : Drawn) → IsDrawn network f other d →
    Load network text (Ok (listed_flows network d))
