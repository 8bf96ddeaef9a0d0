-- What a snapshot file's reader makes of the parts of a flow that is written.
use Rattle.std.proofs.Common.{◌≡◌, ◌∙◌, refl, sym, ap, subst, ℕ, ◌<◌, ◌≤◌, Bool, true, false, cond, List, [], ◌∷◌, length, map, Option, Some, Result, Ok, Err, codes, le-ltb, lt-ltb}
use Rattle.std.specs.Prelude.{nat_lt}
use Rattle.std.specs.Fmt.{digits}
use Rattle.std.specs.List.{All}
use Rattle.std.proofs.lemmas.List.Elements.{All-head, All-tail}
use Rattle.serde_json.specs.Data.{Data, string, array}
use Rattle.serde_json.specs.View.{items_of}
use Rattle.rela_json.specs.declared.error.ListError.TheVariants.{Index}
use Rattle.rela_json.specs.declared.error.LoadError.{LoadError}
use Rattle.rela_json.specs.declared.error.LoadError.TheVariants.{TooMany, UnknownLocation}
use Rattle.rela_json.specs.Indexes.{index_of}
use Rattle.rela_json.specs.Parts.{list_of as entries_in}
use Rattle.rela_json.specs.Results.{◌>>=◌, ok_or, try_map}
use Rattle.rela_names.specs.declared.level.Level.TheVariants.{Interface}
use Rattle.rela_names.specs.Name.{is_name}
use Rattle.rela_flows.specs.Notation.{IsTextOf, text_of}
use Rattle.rela_flows.specs.declared.prefix.Ipv4Prefix.{Ipv4Prefix}
use Rattle.rela_flows.specs.declared.prefix.Prefix.TheVariants.{V4}
use Rattle.rela_locations.specs.Network.{Network, name_of as location_name}
use Rattle.rela_snapshot.specs.Class.{IsPrefixOf, class_name_of, class_of, dst_text_of, flow_name_of, name_of, new_name_of, src_text_of}
use Rattle.rela_snapshot.specs.Contents.{contents_of}
use Rattle.rela_snapshot.specs.FlowEntry.{ListedFlow, flow_of, graph_of, next_name_of}
use Rattle.rela_snapshot.specs.Flows.{IsDst, IsFlow, IsFlowNamed, IsSrc}
use Rattle.rela_snapshot.specs.Interfaces.{interfaces_in}
use Rattle.rela_snapshot.specs.Listed.{Listed}
use Rattle.rela_snapshot.specs.Names.{has_name, place_of}
use Rattle.rela_snapshot.specs.Nodes.{node_at, node_in}
use Rattle.rela_snapshot.specs.Numbered.{edge_of, index_in, list_of, node_of, numbered_edges_of, numbered_nodes_of, numbered_of, optional_list_of, optional_places_of, or_place_error, places_of}
use Rattle.rela_json.specs.Fields.{entries_of, few_entries_of, part_of, string_of, two_entries_of, whole_number_of}
use Rattle.rela_snapshot.specs.Version.{flow_rules, version_of}
use Rattle.rela_fib.specs.Graph.{Graph}
use Rattle.rela_fib.specs.Loading.{everywhere, link_of, listed_graph}
use Rattle.rela_fib.specs.Text.{edge_data, list_data, names_of, number_data, numbers_data}
use Rattle.rela_fib.proofs.Laws.{AreLaws}
use Rattle.rela_fib.proofs.Numbered.{AreBelow, IsBelow, Joins}
use Rattle.rela_fib.proofs.ReadBack.{flow_object, snapshot_object}

-- ---- the version

abbrev HasValue : {V E : Type 0} → Result V E → Type 0
HasValue (Ok v) = Unit {0}
HasValue (Err e) = ⊥

-- the value of a result: of `version_of 1` it is the first version, whose name stays in its crate
abbrev pub value_in : {V E : Type 0} (r : Result V E) → HasValue r → V
value_in (Ok v) has = v
value_in (Err e) has = absurd has

-- ---- lists

entries_are : (ds : List Data) → entries_in (items_of ds) ≡ ds
entries_are [] = refl
entries_are (d ∷ ds) = ap (λ (es : List Data). d ∷ es) (entries_are ds)

few_entries : (most rule row : ℕ) (ds : List Data) → length ds ≤ most → few_entries_of most rule row (Some (array (items_of ds))) ≡ Ok ds
unfolding few_entries_of entries_of
few_entries most rule row ds few =
    let check : List Data → Result (List Data) LoadError = λ es. cond (nat_lt most (length es)) (Err (TooMany row)) (Ok es) in
    ap check (entries_are ds) ∙ ap (λ (b : Bool). cond b (Err (TooMany row)) (Ok ds)) (le-ltb most (length ds) few)

number_read : (count n : ℕ) → n < count → index_of count (number_data n) ≡ Ok n
number_read count n lt = ap (λ (b : Bool). cond b (Ok n) (Err Index)) (lt-ltb n count lt)

numbers_read : (count : ℕ) (ns : List ℕ) → AreBelow count ns → try_map (index_of count) (map number_data ns) ≡ Ok ns
numbers_read count [] h = refl
numbers_read count (n ∷ ns) h = rw (number_read count n (All-head (λ (n : ℕ). n < count) n ns h), numbers_read count ns (All-tail (λ (n : ℕ). n < count) n ns h)) refl

places_read : (count rule row : ℕ) (ns : List ℕ) → AreBelow count ns → places_of count rule row (numbers_data ns) ≡ Ok ns
unfolding places_of
places_read count rule row ns h = ap (λ ds. or_place_error rule row (try_map (index_of count) ds)) (entries_are (map number_data ns)) ∙ ap (or_place_error rule row) (numbers_read count ns h)

edge_read : (count row : ℕ) (edge : ℕ × ℕ) → Joins count edge → edge_of count row (edge_data edge) ≡ Ok (link_of edge)
unfolding edge_of two_entries_of entries_of whole_number_of index_in
edge_read count row edge h = rw (lt-ltb edge.0 count h.0, lt-ltb edge.1 count h.1) refl

edges_read : (count row : ℕ) (edges : List (ℕ × ℕ)) → All (Joins count) edges → try_map (edge_of count row) (map edge_data edges) ≡ Ok (map link_of edges)
edges_read count row [] h = refl
edges_read count row (edge ∷ edges) h = rw (edge_read count row edge (All-head (Joins count) edge edges h), edges_read count row edges (All-tail (Joins count) edge edges h)) refl

-- the name of a symbol is found as the symbol
abbrev pub IsFound : Network → ℕ → Type 0
IsFound network s = place_of (interfaces_in network) (location_name Interface network s) ≡ Some s

node_read : (network : Network) (row s : ℕ) → IsFound network s → node_of network row (string (location_name Interface network s)) ≡ Ok (node_in network s)
unfolding node_of node_at string_of
node_read network row s found = ap (λ (o : Option ℕ). ok_or (UnknownLocation row) o >>= (λ symbol. Ok (node_in network symbol))) found

nodes_read : (network : Network) (row : ℕ) (nodes : List ℕ) → All (IsFound network) nodes → try_map (node_of network row) (map string (names_of network nodes)) ≡ Ok (map (node_in network) nodes)
nodes_read network row [] h = refl
nodes_read network row (s ∷ nodes) h = rw (node_read network row s (All-head (IsFound network) s nodes h), nodes_read network row nodes (All-tail (IsFound network) s nodes h)) refl

-- ---- the graph

numbered_nodes : (network : Network) (row : ℕ) (a b c d e g : Data) (nodes : List ℕ) → length (map string (names_of network nodes)) ≤ 10000 → All (IsFound network) nodes
    → numbered_nodes_of network row (flow_object a b c d e (list_data string (names_of network nodes)) g) ≡ Ok (map (node_in network) nodes)
unfolding numbered_nodes_of part_of
numbered_nodes network row a b c d e g nodes few found =
    ap (λ (r : Result (List Data) LoadError). r >>= try_map (node_of network row)) (few_entries 10000 29 row (map string (names_of network nodes)) few) ∙ nodes_read network row nodes found

numbered_edges : (count row : ℕ) (a b c e f g : Data) (edges : List (ℕ × ℕ)) → length (map edge_data edges) ≤ 100000 → All (Joins count) edges
    → numbered_edges_of count row (flow_object a b c (list_data edge_data edges) e f g) ≡ Ok (map link_of edges)
unfolding numbered_edges_of part_of
numbered_edges count row a b c e f g edges few join =
    ap (λ (r : Result (List Data) LoadError). r >>= try_map (edge_of count row)) (few_entries 100000 31 row (map edge_data edges) few) ∙ edges_read count row edges join

starts_read : (count row : ℕ) (a b c d e f : Data) (ns : List ℕ) → AreBelow count ns → list_of (codes "starts") count 33 row (flow_object a b c d e f (numbers_data ns)) ≡ Ok ns
unfolding list_of part_of
starts_read count row a b c d e f ns h = places_read count 33 row ns h

delivered_read : (count row : ℕ) (b c d e f g : Data) (ns : List ℕ) → AreBelow count ns → optional_list_of (codes "delivered") count 34 row (flow_object (numbers_data ns) b c d e f g) ≡ Ok ns
unfolding optional_list_of optional_places_of part_of
delivered_read count row b c d e f g ns h = places_read count 34 row ns h

dropped_read : (count row : ℕ) (a c d e f g : Data) (ns : List ℕ) → AreBelow count ns → optional_list_of (codes "dropped") count 35 row (flow_object a (numbers_data ns) c d e f g) ≡ Ok ns
unfolding optional_list_of optional_places_of part_of
dropped_read count row a c d e f g ns h = places_read count 35 row ns h

-- the object of a flow, with its graph
abbrev pub graph_object : Network → List ℕ → List ℕ → Graph → Data → Data → Data
graph_object network nodes starts graph dst name =
    flow_object (numbers_data graph.delivered) (numbers_data graph.dropped) dst (list_data edge_data graph.edges) name (list_data string (names_of network nodes)) (numbers_data starts)

-- what the reader needs of the nodes, the starts and the graph
pub record IsReadable (network : Network) (count : ℕ) (nodes starts : List ℕ) (graph : Graph) : Type 0 where
  pub few_nodes : length (map string (names_of network nodes)) ≤ 10000
  pub few_edges : length (map edge_data graph.edges) ≤ 100000
  pub found : All (IsFound network) nodes
  pub starts_below : AreBelow count starts
  pub below : IsBelow count graph

graph_read : (network : Network) (row : ℕ) (nodes starts : List ℕ) (graph : Graph) (dst name : Data) → IsReadable network (length (map (node_in network) nodes)) nodes starts graph
    → numbered_of network row (graph_object network nodes starts graph dst name) ≡ Ok (listed_graph network nodes starts graph)
unfolding numbered_of
graph_read network row nodes starts graph dst name is =
    let count : ℕ = length (map (node_in network) nodes) in
    let ds : Data = numbers_data graph.delivered in
    let ps : Data = numbers_data graph.dropped in
    let es : Data = list_data edge_data graph.edges in
    let ns : Data = list_data string (names_of network nodes) in
    let ss : Data = numbers_data starts in
    rw (
      numbered_nodes network row ds ps dst es name ss nodes is.few_nodes is.found,
      numbered_edges count row ds ps dst name ns ss graph.edges is.few_edges is.below.edges,
      starts_read count row ds ps dst es name ns starts is.starts_below,
      delivered_read count row ps dst es name ns ss graph.delivered is.below.delivered,
      dropped_read count row ds dst es name ns ss graph.dropped is.below.dropped,
    ) refl

-- ---- the name, the prefixes and the class

name_read : (earlier : List (List ℕ)) (a b c d f g : Data) (s : List ℕ) → length earlier < 10000 → is_name s ≡ true → has_name earlier s ≡ false → next_name_of (value_in (version_of 1) tt) earlier (flow_object a b c d (string s) f g) ≡ Ok s
unfolding next_name_of new_name_of flow_name_of name_of part_of string_of
name_read earlier a b c d f g s room named new = rw (lt-ltb (length earlier) 10000 room, named, new) refl

dst_read : (row : ℕ) (a b d e f g : Data) (s : List ℕ) (p : Ipv4Prefix) → IsTextOf s (V4 p) → IsDst (value_in (version_of 1) tt) row (flow_object a b (string s) d e f g) (Ok (V4 p))
unfolding IsDst IsPrefixOf dst_text_of part_of string_of
dst_read row a b d e f g s p is = (Ok s, refl, (is, refl))

everywhere_text : text_of (V4 everywhere) ≡ codes "0.0.0.0/0"
unfolding digits
everywhere_text = refl

src_read : AreLaws → (row : ℕ) (a b c d e f g : Data) (p : Ipv4Prefix) → IsSrc (value_in (version_of 1) tt) row (V4 p) (flow_object a b c d e f g) (Ok (V4 everywhere))
unfolding IsSrc IsPrefixOf src_text_of part_of
src_read laws row a b c d e f g p = (Ok (codes "0.0.0.0/0"), refl, (subst (λ (s : List ℕ). IsTextOf s (V4 everywhere)) everywhere_text (laws.texts (V4 everywhere)), refl))

default_class : (row : ℕ) (a b c d e f g : Data) → class_of (flow_rules (value_in (version_of 1) tt)) row (flow_object a b c d e f g) ≡ Ok (codes "default")
unfolding class_of class_name_of name_of part_of
default_class row a b c d e f g = refl

abbrev pub listed_as : List ℕ → Ipv4Prefix → Listed → ListedFlow
listed_as name p graph = record { class = record { name = name; dst = V4 p; src = V4 everywhere; class = codes "default" }; graph = graph }

-- ---- the flow

pub flow_read : AreLaws → (network : Network) (earlier : List (List ℕ)) (nodes starts : List ℕ) (graph : Graph) (s : List ℕ) (p : Ipv4Prefix) → length earlier < 10000 → is_name s ≡ true → has_name earlier s ≡ false → IsTextOf s (V4 p)
    → IsReadable network (length (map (node_in network) nodes)) nodes starts graph → IsFlow network (value_in (version_of 1) tt) earlier (graph_object network nodes starts graph (string s) (string s)) (Ok (listed_as s p (listed_graph network nodes starts graph)))
unfolding IsFlow IsFlowNamed flow_of graph_of
flow_read laws network earlier nodes starts graph s p room named new text is =
    let row : ℕ = length earlier in
    let ds : Data = numbers_data graph.delivered in
    let ps : Data = numbers_data graph.dropped in
    let es : Data = list_data edge_data graph.edges in
    let ns : Data = list_data string (names_of network nodes) in
    let ss : Data = numbers_data starts in
    let parts : flow_of network (value_in (version_of 1) tt) row s (V4 p) (V4 everywhere) (graph_object network nodes starts graph (string s) (string s)) ≡ Ok (listed_as s p (listed_graph network nodes starts graph)) =
    rw (default_class row ds ps (string s) es (string s) ns ss, graph_read network row nodes starts graph (string s) (string s) is) refl in (
      Ok s,
      sym (name_read earlier ds ps (string s) es ns ss s room named new),
      (Ok (V4 p), dst_read row ds ps es (string s) ns ss s p text, (Ok (V4 everywhere), src_read laws row ds ps (string s) es (string s) ns ss p, sym parts)),
    )

-- ---- the file

pub contents_read : (ds : List Data) → contents_of (snapshot_object (array (items_of ds)) (number_data 1)) ≡ Ok ((value_in (version_of 1) tt), ds)
unfolding contents_of part_of whole_number_of entries_of
contents_read ds = ap (λ (es : List Data). Ok ((value_in (version_of 1) tt), es)) (entries_are ds)
