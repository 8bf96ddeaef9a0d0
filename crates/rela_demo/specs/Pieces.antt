-- The pieces in which the texts are written. Only the crate's private clauses cite it.
use Rattle.std.specs.Prelude.{◌≡◌, ℕ, Bool, true, false, List, [], ◌∷◌, ◌++◌, codes, map}
use Rattle.std.specs.List.{range_with_len}
use Rattle.serde_json.specs.Written.{comma_if, compact_text}
use Rattle.rela_demo.specs.Layers.{Graph}
use Rattle.rela_demo.specs.Names.{Label, device_name, interface_name}
use Rattle.rela_demo.specs.Text.{destination_text, edges_data, flow_name, numbers_data}
use Rattle.rela_demo.specs.declared.snapshot.GraphText.{GraphText}

-- a comma between two texts, and one before the first where something stands before
abbrev pub commas : Bool → List (List ℕ) → List ℕ
commas later [] = []
commas later (t ∷ ts) = comma_if later ++ (t ++ commas true ts)

-- an array of entries of these texts
abbrev pub array_text : {A : Type 0} → (A → List ℕ) → List A → List ℕ
array_text text_of xs = 91 ∷ (commas false (map text_of xs) ++ 93 ∷ [])

-- an interface's name in quotes
abbrev pub node_text : Label → List ℕ
node_text label = 34 ∷ (interface_name label ++ 34 ∷ [])

abbrev pub device_text : Label → List ℕ
device_text label = codes "{\"interfaces\":["
    ++ (node_text label ++ (codes "],\"name\":\"" ++ (device_name label ++ codes "\"}")))

abbrev pub locations_text : List Label → List ℕ
locations_text labels = codes "{\"version\":1,\"groups\":[{\"name\":\"all-devices\",\"devices\":"
    ++ (array_text device_text labels ++ codes "}]}")

abbrev pub nodes_text : List Label → List ℕ
nodes_text labels = array_text node_text labels

-- the lists of a graph are written
pub record Writes (graph : Graph) (text : GraphText) : Type 0 where
  pub edges : text.edges.items ≡ compact_text (edges_data graph.edges)
  pub delivered : text.delivered.items ≡ compact_text (numbers_data graph.delivered)
  pub dropped : text.dropped.items ≡ compact_text (numbers_data graph.dropped)

-- the flow of a number, with its nodes and its graph
abbrev pub flow_text : ℕ → List ℕ → GraphText → List ℕ
flow_text k nodes graph = codes "{\"delivered\":"
    ++ (graph.delivered.items ++ (codes ",\"dropped\":"
    ++ (graph.dropped.items ++ (codes ",\"dst\":\""
    ++ (destination_text k ++ (codes "\",\"edges\":"
    ++ (graph.edges.items ++ (codes ",\"name\":\""
    ++ (flow_name k ++ (codes "\",\"nodes\":"
    ++ (nodes ++ codes ",\"starts\":[0]}")))))))))))

-- the texts of some numbers, a comma behind each, and what stands behind them
abbrev pub entries_before : (ℕ → List ℕ) → List ℕ → List ℕ → List ℕ
entries_before text_of [] rest = rest
entries_before text_of (k ∷ ks) rest = text_of k ++ 44 ∷ entries_before text_of ks rest

abbrev pub snapshot_text : List ℕ → GraphText → GraphText → GraphText → List ℕ
snapshot_text nodes layered seventh eighth = codes "{\"version\":1,\"flows\":["
    ++ entries_before (λ k. flow_text k nodes layered) (range_with_len 1 6)
    (flow_text 7 nodes seventh ++ 44 ∷ (flow_text 8 nodes eighth ++ codes "]}"))
