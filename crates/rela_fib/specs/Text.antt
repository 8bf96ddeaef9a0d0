-- The text of a snapshot: compact JSON, the members of each object in the order of their names by
-- bytes, and a newline.
use Rattle.std.specs.Prelude.{ℕ, List, [], ◌∷◌, ◌++◌, codes, map}
use Rattle.serde_json.specs.Data.{Data, unsigned, number, string, array, object, no_members, member}
use Rattle.serde_json.specs.View.{items_of}
use Rattle.serde_json.specs.Written.{compact_text}
use Rattle.rela_flows.specs.Notation.{text_of}
use Rattle.rela_flows.specs.declared.prefix.Ipv4Prefix.{Ipv4Prefix}
use Rattle.rela_flows.specs.declared.prefix.Prefix.TheVariants.{V4}
use Rattle.rela_names.specs.declared.level.Level.TheVariants.{Interface}
use Rattle.rela_locations.specs.Network.{Network, name_of}
use Rattle.rela_fib.specs.Graph.{Graph}

-- a class of addresses, and the graph for them
pub record Flow : Type 0 where
  pub class : Ipv4Prefix
  pub graph : Graph

-- the nodes of the graphs, the places of the nodes where traffic starts, and the flows
pub record Drawn : Type 0 where
  pub nodes : List ℕ
  pub starts : List ℕ
  pub flows : List Flow

abbrev pub list_data : {A : Type 0} → (A → Data) → List A → Data
list_data data_of xs = array (items_of (map data_of xs))

abbrev pub number_data : ℕ → Data
number_data n = number (unsigned n)

abbrev pub numbers_data : List ℕ → Data
numbers_data = list_data number_data

abbrev pub edge_data : ℕ × ℕ → Data
edge_data edge = numbers_data (edge.0 ∷ edge.1 ∷ [])

abbrev pub prefix_data : Ipv4Prefix → Data
prefix_data class = string (text_of (V4 class))

-- a flow, whose graph has nodes of these names
abbrev pub flow_data : List (List ℕ) → List ℕ → Flow → Data
flow_data names starts flow = object
    (member (codes "delivered") (numbers_data flow.graph.delivered)
    (member (codes "dropped") (numbers_data flow.graph.dropped)
    (member (codes "dst") (prefix_data flow.class)
    (member (codes "edges") (list_data edge_data flow.graph.edges)
    (member (codes "name") (prefix_data flow.class)
    (member (codes "nodes") (list_data string names)
    (member (codes "starts") (numbers_data starts)
    no_members)))))))

abbrev pub snapshot_data : List (List ℕ) → List ℕ → List Flow → Data
snapshot_data names starts flows = object
    (member (codes "flows") (list_data (flow_data names starts) flows)
    (member (codes "version") (number_data 1)
    no_members))

abbrev pub names_of : Network → List ℕ → List (List ℕ)
names_of network nodes = map (name_of Interface network) nodes

abbrev pub snapshot_bytes : Network → Drawn → List ℕ
snapshot_bytes network d =
    compact_text (snapshot_data (names_of network d.nodes) d.starts d.flows) ++ 10 ∷ []
