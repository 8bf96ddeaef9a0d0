-- What a snapshot file's reader makes of the parts of a flow that is written.
use Rattle.std.proofs.Common.{◌≡◌, ◌∙◌, refl, sym, ap, ℕ, ◌%◌, ◌^◌, ◌<◌, ◌≤◌, Bool, true, false, cond, List, [], ◌∷◌, length, map, Option, Some, Result, Ok, Err, codes, le-ltb, lt-ltb}
use Rattle.std.specs.Prelude.{nat_lt}
use Rattle.std.specs.List.{All}
use Rattle.std.specs.List.{position_or_len}
use Rattle.std.specs.Str.{bytes_eq}
use Rattle.std.proofs.lemmas.List.Elements.{All-cons, All-head, All-nil, All-tail}
use Rattle.serde_json.specs.Data.{Data, string, array, object, no_members, member}
use Rattle.serde_json.specs.View.{items_of}
use Rattle.rela_json.specs.declared.error.ListError.TheVariants.{Index}
use Rattle.rela_json.specs.declared.error.LoadError.{LoadError}
use Rattle.rela_json.specs.declared.error.LoadError.TheVariants.{TooMany, UnknownLocation}
use Rattle.rela_json.specs.Indexes.{index_of}
use Rattle.rela_json.specs.Parts.{list_of as entries_in}
use Rattle.rela_json.specs.Results.{◌>>=◌, ok_or, try_map}
use Rattle.rela_names.specs.Name.{is_name}
use Rattle.rela_flows.specs.Notation.{IsTextOf}
use Rattle.rela_flows.specs.declared.prefix.Ipv4Prefix.{Ipv4Prefix}
use Rattle.rela_flows.specs.declared.prefix.Prefix.TheVariants.{V4}
use Rattle.rela_locations.specs.Network.{Network}
use Rattle.rela_snapshot.specs.Class.{IsPrefixOf, class_name_of, class_of, dst_text_of, flow_name_of, name_of, new_name_of, src_text_of}
use Rattle.rela_snapshot.specs.Contents.{contents_of}
use Rattle.rela_snapshot.specs.FlowEntry.{flow_of, graph_of, next_name_of}
use Rattle.rela_snapshot.specs.Flows.{IsDst, IsFlow, IsFlowNamed, IsSrc}
use Rattle.rela_snapshot.specs.Interfaces.{interfaces_in}
use Rattle.rela_snapshot.specs.Names.{has_name, place_of}
use Rattle.rela_snapshot.specs.Nodes.{node_at, node_in}
use Rattle.rela_snapshot.specs.Numbered.{edge_of, index_in, list_of, node_of, numbered_edges_of, numbered_nodes_of, numbered_of, optional_list_of, optional_places_of, or_place_error, places_of}
use Rattle.rela_json.specs.Fields.{entries_of, few_entries_of, part_of, string_of, two_entries_of, whole_number_of}
use Rattle.rela_snapshot.specs.Version.{flow_rules, version_of}
use Rattle.rela_graph.specs.declared.node.Link.{Link}
use Rattle.rela_demo.specs.Flows.{address_of, class, destination, everywhere, listed, node_of as label_node}
use Rattle.rela_demo.specs.Layers.{Graph, node_labels}
use Rattle.rela_demo.specs.Locations.{network as network_of}
use Rattle.rela_demo.specs.Names.{Label, interface_name}
use Rattle.rela_demo.specs.Text.{destination_text, edge_data, edges_data, flow_data, flow_name, node_data, nodes_data, number_data, numbers_data}
use Rattle.rela_demo.proofs.Below.{AreBelow, IsBelow, Joins}
use Rattle.rela_demo.proofs.Prefixes.{everywhere_text}
use Rattle.rela_demo.proofs.ReadBack.{flow_object}

-- ---- the version

abbrev HasValue : {V E : Type 0} → Result V E → Type 0
HasValue (Ok v) = Unit {0}
HasValue (Err e) = ⊥

-- the value of a result: of `version_of 1` it is the first version, whose name stays in its crate
abbrev pub value_in : {V E : Type 0} (r : Result V E) → HasValue r → V
value_in (Ok v) has = v
value_in (Err e) has = absurd has

-- ---- lists

pub entries_are : (ds : List Data) → entries_in (items_of ds) ≡ ds
entries_are [] = refl
entries_are (d ∷ ds) = ap (λ (es : List Data). d ∷ es) (entries_are ds)

few_entries : (most rule row : ℕ) (ds : List Data) → length ds ≤ most → few_entries_of most rule row (Some (array (items_of ds))) ≡ Ok ds
unfolding few_entries_of entries_of
few_entries most rule row ds few =
    let check : List Data → Result (List Data) LoadError = λ es. cond (nat_lt most (length es)) (Err (TooMany row)) (Ok es) in
    ap check (entries_are ds) ∙ ap (λ (b : Bool). cond b (Err (TooMany row)) (Ok ds)) (le-ltb most (length ds) few)

number_read : (count n : ℕ) → n < count → index_of count (number_data n) ≡ Ok n
number_read count n lt = ap (λ (b : Bool). cond b (Ok n) (Err Index)) (lt-ltb n count lt)

numbers_read : (count : ℕ) (ns : List ℕ) → AreBelow count ns → try_map (index_of count) (map number_data ns) ≡ Ok ns
numbers_read count [] h = refl
numbers_read count (n ∷ ns) h = rw (number_read count n (All-head (λ (n : ℕ). n < count) n ns h), numbers_read count ns (All-tail (λ (n : ℕ). n < count) n ns h)) refl

places_read : (count rule row : ℕ) (ns : List ℕ) → AreBelow count ns → places_of count rule row (numbers_data ns) ≡ Ok ns
unfolding places_of
places_read count rule row ns h = ap (λ ds. or_place_error rule row (try_map (index_of count) ds)) (entries_are (map number_data ns)) ∙ ap (or_place_error rule row) (numbers_read count ns h)

edge_read : (count row : ℕ) (edge : Link) → Joins count edge → edge_of count row (edge_data edge) ≡ Ok edge
unfolding edge_of two_entries_of entries_of whole_number_of index_in
edge_read count row edge h = rw (lt-ltb edge.a count h.0, lt-ltb edge.b count h.1) refl

edges_read : (count row : ℕ) (edges : List Link) → All (Joins count) edges → try_map (edge_of count row) (map edge_data edges) ≡ Ok edges
edges_read count row [] h = refl
edges_read count row (edge ∷ edges) h = rw (edge_read count row edge (All-head (Joins count) edge edges h), edges_read count row edges (All-tail (Joins count) edge edges h)) refl

-- the interface of a device is found
abbrev pub IsFound : Network → Label → Type 0
IsFound network label = place_of (interfaces_in network) (interface_name label) ≡ Some (position_or_len (bytes_eq (interface_name label)) (interfaces_in network))

node_read : (network : Network) (row : ℕ) (label : Label) → IsFound network label → node_of network row (node_data label) ≡ Ok (label_node network label)
unfolding node_of node_at string_of
node_read network row label found = ap (λ (o : Option ℕ). ok_or (UnknownLocation row) o >>= (λ symbol. Ok (node_in network symbol))) found

nodes_read : (network : Network) (row : ℕ) (labels : List Label) → All (IsFound network) labels → try_map (node_of network row) (map node_data labels) ≡ Ok (map (label_node network) labels)
nodes_read network row [] h = refl
nodes_read network row (l ∷ labels) h = rw (node_read network row l (All-head (IsFound network) l labels h), nodes_read network row labels (All-tail (IsFound network) l labels h)) refl

-- ---- the graph

numbered_nodes : (network : Network) (row : ℕ) (a b c d e g : Data) (labels : List Label) → length (map node_data labels) ≤ 10000 → All (IsFound network) labels
    → numbered_nodes_of network row (flow_object a b c d e (nodes_data labels) g) ≡ Ok (map (label_node network) labels)
unfolding numbered_nodes_of part_of
numbered_nodes network row a b c d e g labels few found =
    ap (λ (r : Result (List Data) LoadError). r >>= try_map (node_of network row)) (few_entries 10000 29 row (map node_data labels) few) ∙ nodes_read network row labels found

numbered_edges : (count row : ℕ) (a b c e f g : Data) (edges : List Link) → length (map edge_data edges) ≤ 100000 → All (Joins count) edges
    → numbered_edges_of count row (flow_object a b c (edges_data edges) e f g) ≡ Ok edges
unfolding numbered_edges_of part_of
numbered_edges count row a b c e f g edges few join =
    ap (λ (r : Result (List Data) LoadError). r >>= try_map (edge_of count row)) (few_entries 100000 31 row (map edge_data edges) few) ∙ edges_read count row edges join

starts_read : (count row : ℕ) (a b c d e f : Data) (ns : List ℕ) → AreBelow count ns → list_of (codes "starts") count 33 row (flow_object a b c d e f (numbers_data ns)) ≡ Ok ns
unfolding list_of part_of
starts_read count row a b c d e f ns h = places_read count 33 row ns h

delivered_read : (count row : ℕ) (b c d e f g : Data) (ns : List ℕ) → AreBelow count ns → optional_list_of (codes "delivered") count 34 row (flow_object (numbers_data ns) b c d e f g) ≡ Ok ns
unfolding optional_list_of optional_places_of part_of
delivered_read count row b c d e f g ns h = places_read count 34 row ns h

dropped_read : (count row : ℕ) (a c d e f g : Data) (ns : List ℕ) → AreBelow count ns → optional_list_of (codes "dropped") count 35 row (flow_object a (numbers_data ns) c d e f g) ≡ Ok ns
unfolding optional_list_of optional_places_of part_of
dropped_read count row a c d e f g ns h = places_read count 35 row ns h

-- what the reader needs of the nodes and of a graph
pub record IsReadable (n : ℕ) (graph : Graph) : Type 0 where
  pub few_nodes : length (map node_data (node_labels n)) ≤ 10000
  pub few_edges : length (map edge_data graph.edges) ≤ 100000
  pub found : All (IsFound (network_of n)) (node_labels n)
  pub some : 0 < length (map (label_node (network_of n)) (node_labels n))
  pub below : IsBelow (length (map (label_node (network_of n)) (node_labels n))) graph

-- the object of a flow on these nodes
abbrev graph_object : ℕ → Graph → Data → Data → Data
graph_object n graph dst name = flow_object (numbers_data graph.delivered) (numbers_data graph.dropped) dst (edges_data graph.edges) name (nodes_data (node_labels n)) (numbers_data (0 ∷ []))

graph_read : (n row : ℕ) (graph : Graph) (dst name : Data) → IsReadable n graph → numbered_of (network_of n) row (graph_object n graph dst name) ≡ Ok (listed n graph)
unfolding numbered_of
graph_read n row graph dst name is =
    let count : ℕ = length (map (label_node (network_of n)) (node_labels n)) in
    let ds : Data = numbers_data graph.delivered in
    let ps : Data = numbers_data graph.dropped in
    let es : Data = edges_data graph.edges in
    let ns : Data = nodes_data (node_labels n) in
    let ss : Data = numbers_data (0 ∷ []) in
    let Below : ℕ → Type 0 = λ m. m < count in
    rw (
      numbered_nodes (network_of n) row ds ps dst es name ss (node_labels n) is.few_nodes is.found,
      numbered_edges count row ds ps dst name ns ss graph.edges is.few_edges is.below.edges,
      starts_read count row ds ps dst es name ns (0 ∷ []) (All-cons Below 0 [] is.some (All-nil Below)),
      delivered_read count row ps dst es name ns ss graph.delivered is.below.delivered,
      dropped_read count row ds dst es name ns ss graph.dropped is.below.dropped,
    ) refl

-- ---- the name, the prefixes and the class

name_read : (earlier : List (List ℕ)) (a b c d f g : Data) (s : List ℕ) → length earlier < 10000 → is_name s ≡ true → has_name earlier s ≡ false → next_name_of (value_in (version_of 1) tt) earlier (flow_object a b c d (string s) f g) ≡ Ok s
unfolding next_name_of new_name_of flow_name_of name_of part_of string_of
name_read earlier a b c d f g s room named new = rw (lt-ltb (length earlier) 10000 room, named, new) refl

dst_read : (row : ℕ) (a b d e f g : Data) (s : List ℕ) (p : Ipv4Prefix) → IsTextOf s (V4 p) → IsDst (value_in (version_of 1) tt) row (flow_object a b (string s) d e f g) (Ok (V4 p))
unfolding IsDst IsPrefixOf dst_text_of part_of string_of
dst_read row a b d e f g s p is = (Ok s, refl, (is, refl))

src_read : (row : ℕ) (a b c d e f g : Data) (p : Ipv4Prefix) → IsSrc (value_in (version_of 1) tt) row (V4 p) (flow_object a b c d e f g) (Ok (V4 everywhere))
unfolding IsSrc IsPrefixOf src_text_of part_of
src_read row a b c d e f g p = (Ok (codes "0.0.0.0/0"), refl, (everywhere_text, refl))

default_class : (row : ℕ) (a b c d e f g : Data) → class_of (flow_rules (value_in (version_of 1) tt)) row (flow_object a b c d e f g) ≡ Ok (codes "default")
unfolding class_of class_name_of name_of part_of
default_class row a b c d e f g = refl

-- ---- the flow

-- what is known of the number of a flow behind flows of these names
pub record IsNumber (earlier : List (List ℕ)) (k : ℕ) (p : Ipv4Prefix) : Type 0 where
  pub room : length earlier < 10000
  pub named : is_name (flow_name k) ≡ true
  pub new : has_name earlier (flow_name k) ≡ false
  pub text : IsTextOf (destination_text k) (V4 p)

pub flow_read : (n k : ℕ) (earlier : List (List ℕ)) (graph : Graph) (fits : address_of k < 2 ^ 32) (zeros : address_of k % 2 ^ 8 ≡ 0) → IsNumber earlier k (destination k fits zeros) → IsReadable n graph
    → IsFlow (network_of n) (value_in (version_of 1) tt) earlier (flow_data n k graph) (Ok (record { class = class k fits zeros; graph = listed n graph }))
unfolding IsFlow IsFlowNamed flow_of graph_of
flow_read n k earlier graph fits zeros number is =
    let row : ℕ = length earlier in
    let p : Ipv4Prefix = destination k fits zeros in
    let s : List ℕ = flow_name k in
    let t : List ℕ = destination_text k in
    let ds : Data = numbers_data graph.delivered in
    let ps : Data = numbers_data graph.dropped in
    let es : Data = edges_data graph.edges in
    let ns : Data = nodes_data (node_labels n) in
    let ss : Data = numbers_data (0 ∷ []) in
    let parts : flow_of (network_of n) (value_in (version_of 1) tt) row s (V4 p) (V4 everywhere) (graph_object n graph (string t) (string s)) ≡ Ok (record { class = class k fits zeros; graph = listed n graph }) =
    rw (default_class row ds ps (string t) es (string s) ns ss, graph_read n row graph (string t) (string s) is) refl in (
      Ok s,
      sym (name_read earlier ds ps (string t) es ns ss s number.room number.named number.new),
      (Ok (V4 p), dst_read row ds ps es (string s) ns ss t p number.text, (Ok (V4 everywhere), src_read row ds ps (string t) es (string s) ns ss p, sym parts)),
    )

-- ---- the file

abbrev pub snapshot_object : Data → Data → Data
snapshot_object flows version = object (member (codes "flows") flows (member (codes "version") version no_members))

pub contents_read : (ds : List Data) → contents_of (snapshot_object (array (items_of ds)) (number_data 1)) ≡ Ok ((value_in (version_of 1) tt), ds)
unfolding contents_of part_of whole_number_of entries_of
contents_read ds = ap (λ (es : List Data). Ok ((value_in (version_of 1) tt), es)) (entries_are ds)
