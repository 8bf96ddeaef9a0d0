-- The flows f1 to f8 of an input, before the change and after it. Flow K goes to 10.0.K.0/24,
-- from anywhere.
use Rattle.std.specs.Prelude.{◌≡◌, ℕ, ◌+◌, ◌*◌, ◌^◌, ◌%◌, ◌<◌, refl, List, [], ◌∷◌, codes, map}
use Rattle.std.specs.List.{position_or_len}
use Rattle.std.specs.Str.{bytes_eq}
use Rattle.std.proofs.Common.{lit<, lit≤}
use Rattle.rela_flows.specs.declared.predicate.FlowClass.{FlowClass}
use Rattle.rela_flows.specs.declared.prefix.Ipv4Prefix.{Ipv4Prefix}
use Rattle.rela_flows.specs.declared.prefix.Prefix.TheVariants.{V4}
use Rattle.rela_graph.specs.declared.node.Node.{Node}
use Rattle.rela_locations.specs.Network.{Network}
use Rattle.rela_snapshot.specs.FlowEntry.{ListedFlow}
use Rattle.rela_snapshot.specs.Interfaces.{interfaces_in}
use Rattle.rela_snapshot.specs.Listed.{Listed}
use Rattle.rela_snapshot.specs.Nodes.{node_in}
use Rattle.rela_demo.specs.Layers.{Graph, cut, layered, lost, node_labels}
use Rattle.rela_demo.specs.Locations.{network}
use Rattle.rela_demo.specs.Names.{Label, interface_name}

-- the prefix of all IPv4 addresses
abbrev pub everywhere : Ipv4Prefix
everywhere = record {
  address = 0;
  length = 0;
  address_fits = lit< tt;
  length_fits = lit≤ tt;
  host_bits_zero = refl;
}

-- the address 10.0.K.0
abbrev pub address_of : ℕ → ℕ
address_of k = 10 * 2 ^ 24 + k * 2 ^ 8

-- 10.0.K.0/24
abbrev pub destination : (k : ℕ) → address_of k < 2 ^ 32 → address_of k % 2 ^ 8 ≡ 0 → Ipv4Prefix
destination k fits zeros = record {
  address = address_of k;
  length = 24;
  address_fits = fits;
  length_fits = lit≤ tt;
  host_bits_zero = zeros;
}

-- the traffic from anywhere to there, under the name fK
abbrev pub class : (k : ℕ) → address_of k < 2 ^ 32 → address_of k % 2 ^ 8 ≡ 0 → FlowClass
class k fits zeros = record {
  name = 102 ∷ (48 + k) ∷ [];
  dst = V4 (destination k fits zeros);
  src = V4 everywhere;
  class = codes "default";
}

abbrev pub classes : List FlowClass
classes = class 1 (lit< tt) refl ∷ class 2 (lit< tt) refl ∷ class 3 (lit< tt) refl
    ∷ class 4 (lit< tt) refl ∷ class 5 (lit< tt) refl ∷ class 6 (lit< tt) refl
    ∷ class 7 (lit< tt) refl ∷ class 8 (lit< tt) refl ∷ []

-- the node at the interface of a device
abbrev pub node_of : Network → Label → Node
node_of locations label = node_in locations (position_or_len (bytes_eq (interface_name label))
    (interfaces_in locations))

-- the graph, with its nodes
abbrev pub listed : ℕ → Graph → Listed
listed n graph = record {
  nodes = map (node_of (network n)) (node_labels n);
  edges = graph.edges;
  starts = 0 ∷ [];
  delivered = graph.delivered;
  dropped = graph.dropped;
}

-- the classes in order, each with its graph
abbrev pub flows_with : ℕ → List FlowClass → List Graph → List ListedFlow
flows_with n [] graphs = []
flows_with n (c ∷ cs) [] = []
flows_with n (c ∷ cs) (g ∷ gs) = record { class = c; graph = listed n g } ∷ flows_with n cs gs

-- the graphs of f1 to f8, of which f7 and f8 have these
abbrev pub graphs : ℕ → Graph → Graph → List Graph
graphs n seventh eighth = layered n ∷ layered n ∷ layered n ∷ layered n ∷ layered n ∷ layered n
    ∷ seventh ∷ eighth ∷ []

-- before the change each flow has the layered graph
abbrev pub flows_before : ℕ → List ListedFlow
flows_before n = flows_with n classes (graphs n (layered n) (layered n))

-- after it b of the last layer is cut off for f7, and a of the last layer loses f8
abbrev pub flows_after : ℕ → List ListedFlow
flows_after n = flows_with n classes (graphs n (cut n) (lost n))
