-- What the JSON texts stand for: values whose objects have their members in the order of the names, as
-- they are read. The texts are compact, and the version is written first, so that a text can be read
-- token by token. Only the crate's private clauses cite it.
use Rattle.std.specs.Prelude.{ℕ, ◌+◌, List, [], ◌∷◌, ◌++◌, codes, map}
use Rattle.serde_json.specs.Data.{Data, unsigned, number, string, array, object, no_members, member}
use Rattle.serde_json.specs.View.{items_of}
use Rattle.rela_graph.specs.declared.node.Link.{Link}
use Rattle.rela_demo.specs.Layers.{Graph, node_labels}
use Rattle.rela_demo.specs.Names.{Label, device_name, interface_name, labels_from}

abbrev pub list_data : {A : Type 0} → (A → Data) → List A → Data
list_data data_of xs = array (items_of (map data_of xs))

abbrev pub number_data : ℕ → Data
number_data n = number (unsigned n)

abbrev pub numbers_data : List ℕ → Data
numbers_data = list_data number_data

abbrev pub edge_data : Link → Data
edge_data edge = numbers_data (edge.a ∷ edge.b ∷ [])

abbrev pub edges_data : List Link → Data
edges_data = list_data edge_data

-- the node of a device
abbrev pub node_data : Label → Data
node_data label = string (interface_name label)

abbrev pub nodes_data : List Label → Data
nodes_data = list_data node_data

-- ---- the locations

abbrev pub device_data : Label → Data
device_data label = object
    (member (codes "interfaces") (array (items_of (node_data label ∷ [])))
    (member (codes "name") (string (device_name label))
    no_members))

abbrev pub group_data : List Label → Data
group_data labels = object
    (member (codes "devices") (list_data device_data labels)
    (member (codes "name") (string (codes "all-devices"))
    no_members))

abbrev pub locations_data : ℕ → Data
locations_data n = object
    (member (codes "groups") (array (items_of (group_data (labels_from 1 n) ∷ [])))
    (member (codes "version") (number_data 1)
    no_members))

-- as they are written
abbrev pub written_group : List Label → Data
written_group labels = object
    (member (codes "name") (string (codes "all-devices"))
    (member (codes "devices") (list_data device_data labels)
    no_members))

abbrev pub written_locations : ℕ → Data
written_locations n = object
    (member (codes "version") (number_data 1)
    (member (codes "groups") (array (items_of (written_group (labels_from 1 n) ∷ [])))
    no_members))

-- ---- the snapshots

abbrev pub flow_name : ℕ → List ℕ
flow_name k = 102 ∷ (48 + k) ∷ []

abbrev pub destination_text : ℕ → List ℕ
destination_text k = codes "10.0." ++ ((48 + k) ∷ codes ".0/24")

-- the flow of a number, with its graph
abbrev pub flow_data : ℕ → ℕ → Graph → Data
flow_data n k graph = object
    (member (codes "delivered") (numbers_data graph.delivered)
    (member (codes "dropped") (numbers_data graph.dropped)
    (member (codes "dst") (string (destination_text k))
    (member (codes "edges") (edges_data graph.edges)
    (member (codes "name") (string (flow_name k))
    (member (codes "nodes") (nodes_data (node_labels n))
    (member (codes "starts") (numbers_data (0 ∷ []))
    no_members)))))))

-- the flows, numbered from k on
abbrev pub flows_data : ℕ → ℕ → List Graph → List Data
flows_data n k [] = []
flows_data n k (g ∷ gs) = flow_data n k g ∷ flows_data n (k + 1) gs

abbrev pub snapshot_data : ℕ → List Graph → Data
snapshot_data n gs = object
    (member (codes "flows") (array (items_of (flows_data n 1 gs)))
    (member (codes "version") (number_data 1)
    no_members))

-- as it is written
abbrev pub written_snapshot : ℕ → List Graph → Data
written_snapshot n gs = object
    (member (codes "version") (number_data 1)
    (member (codes "flows") (array (items_of (flows_data n 1 gs)))
    no_members))
