-- The text of a snapshot loads as the flows that were written.
use Rattle.std.proofs.Common.{◌≡◌, ◌∙◌, refl, sym, ap, subst, ℕ, ◌+◌, ◌-◌, ◌^◌, ◌<◌, ◌≤◌, Bool, true, false, not, List, [], ◌∷◌, ◌++◌, length, map, get_or, Ok, Some, append_assoc, append-nil, pow_pos, arith}
use Rattle.std.specs.List.{All, position_or_len}
use Rattle.std.specs.Ordering.{is_eq}
use Rattle.std.specs.Str.{bytes_eq}
use Rattle.std.specs.Cmp.Lexicographic.{bytes_decides}
use Rattle.std.proofs.lemmas.Bool.{and_parts, lt-ltb}
use Rattle.std.proofs.lemmas.List.{length-append, length-map, map-append}
use Rattle.std.proofs.lemmas.List.Elements.{All-nil, All-cons, All-head, All-map, All-push, All-tail, All-weaker}
use Rattle.std.proofs.lemmas.List.Sums.{position_or_len_is}
use Rattle.std.proofs.lemmas.Map.Text.{is_eq-slice_cmp}
use Rattle.std.proofs.lemmas.Slice.Eq.{bytes_eq-Decides}
use Rattle.serde_json.specs.Data.{Data, string}
use Rattle.serde_json.specs.Written.{compact_text}
use Rattle.rela_json.specs.declared.error.LoadError.TheVariants.{NotJson}
use Rattle.rela_json.specs.Reading.{reading}
use Rattle.rela_json.specs.Results.{ok_or}
use Rattle.rela_names.specs.Alphabet.{IsAlphabet}
use Rattle.rela_names.specs.Name.{IsAscending, IsBytesBefore, IsName, bytes_cmp, is_name, is_reserved}
use Rattle.rela_names.specs.declared.level.Level.TheVariants.{Interface}
use Rattle.rela_flows.specs.Notation.{text_of}
use Rattle.rela_flows.specs.declared.prefix.Ipv4Prefix.{Ipv4Prefix}
use Rattle.rela_flows.specs.declared.prefix.Prefix.TheVariants.{V4}
use Rattle.rela_locations.specs.Network.{Network, alphabet_of, name_of}
use Rattle.rela_prefixes.specs.Classes.{Adjoin}
use Rattle.rela_tables.specs.Distinct.{AreTables}
use Rattle.rela_tables.specs.Forwarding.{Forwarding}
use Rattle.rela_tables.specs.Located.{AreInterfaces, IsForwardingIn}
use Rattle.rela_snapshot.specs.FlowEntry.{ListedFlow, listed_names}
use Rattle.rela_snapshot.specs.Flows.{AreFlows, IsFlow}
use Rattle.rela_snapshot.specs.Interfaces.{interfaces_in}
use Rattle.rela_snapshot.specs.Load.{IsSnapshot, Load}
use Rattle.rela_snapshot.specs.Names.{has_name, place_of}
use Rattle.rela_snapshot.specs.Nodes.{node_in}
use Rattle.rela_snapshot.specs.Version.{version_of}
use Rattle.rela_fib.specs.Loading.{LoadsAs, listed_flow, listed_flows}
use Rattle.rela_fib.specs.Snapshot.{IsDrawn, IsFew, IsSnapshotOf, classes_of}
use Rattle.rela_fib.specs.Text.{Drawn, Flow, edge_data, flow_data, list_data, names_of, number_data, numbers_data, snapshot_bytes, snapshot_data}
use Rattle.rela_fib.proofs.Entries.{IsFound, IsReadable, contents_read, flow_read, value_in}
use Rattle.rela_fib.proofs.Laws.{AreLaws, holds_own}
use Rattle.rela_fib.proofs.Located.{nodes_located}
use Rattle.rela_fib.proofs.Numbered.{AreBelow, IsBelow, Joins, graph_below}
use Rattle.rela_fib.proofs.Plain.{IsPlain, name_plain, prefix_plain}
use Rattle.rela_fib.proofs.PrefixNames.{prefix_named, same_address}
use Rattle.rela_fib.proofs.ReadBack.{IsReadBack, deeper, flow_back, line_reading, list_back, number_back, snapshot_back, string_back}
use Rattle.rela_fib.proofs.Unique.{drawn_unique}

-- ---- the nodes

location_named : (names : List (List ℕ)) (s : ℕ) → IsAlphabet names → s < length names → IsName (get_or names s [])
location_named names s is lt = (and_parts (is_name (get_or names s [])) (not (is_reserved (get_or names s []))) (is.location_names s [] lt)).0

bytes_apart : (b : Bool) (s t : List ℕ) → bytes_eq s t ≡ b → (s ≡ t → ⊥) → b ≡ false
bytes_apart true s t is apart = absurd (apart ((bytes_decides s t).0 is))
bytes_apart false s t is apart = refl

-- no name is before itself
not_itself : (name : List ℕ) → ¬ IsBytesBefore name name
not_itself name before =
    let equal : is_eq (bytes_cmp name name) ≡ true = is_eq-slice_cmp name name ∙ (bytes_eq-Decides name name).1 refl in
    let less : is_eq (bytes_cmp name name) ≡ false = ap is_eq before in
    absurd (cc)

-- the first place of a name of an ascending list is its own
own_place : (names : List (List ℕ)) (s : ℕ) → IsAscending names → s < length names → Some s ≡ place_of names (get_or names s [])
own_place names s ascending lt =
    let name : List ℕ = get_or names s [] in
    let first : position_or_len (bytes_eq name) names ≡ s =
    position_or_len_is (bytes_eq name) names s [] (omega arith)
    (λ k before. bytes_apart (bytes_eq name (get_or names k [])) name (get_or names k []) refl (λ same. not_itself name (subst (λ other. IsBytesBefore other name) (sym same) (ascending k s [] before lt))))
    (λ _. (bytes_decides name name).1 refl) in
    sym (rw (first, lt-ltb s (length names) lt) refl)

node_found : (network : Network) (s : ℕ) → IsAlphabet (alphabet_of Interface network) → s < length (alphabet_of Interface network) → IsFound network s
unfolding interfaces_in
node_found network s is lt = sym (own_place (alphabet_of Interface network) s is.ascending lt)

nodes_found : (network : Network) (nodes : List ℕ) → IsAlphabet (alphabet_of Interface network) → AreInterfaces network nodes → All (IsFound network) nodes
nodes_found network nodes is located = All-weaker (λ (s : ℕ). s < length (alphabet_of Interface network)) (IsFound network) (λ s lt. node_found network s is lt) nodes located

names_plain : (network : Network) (nodes : List ℕ) → IsAlphabet (alphabet_of Interface network) → AreInterfaces network nodes → All (All IsPlain) (names_of network nodes)
names_plain network nodes is located = All-map (All IsPlain) (name_of Interface network) nodes
    (All-weaker (λ (s : ℕ). s < length (alphabet_of Interface network)) (λ s. All IsPlain (name_of Interface network s)) (λ s lt. name_plain (name_of Interface network s) (location_named (alphabet_of Interface network) s is lt)) nodes located)

-- ---- the values are read back

-- what is known of what is written
record IsKnown (network : Network) (nodes starts : List ℕ) : Type 0 where
  few : length nodes ≤ 10000
  found : All (IsFound network) nodes
  plain : All (All IsPlain) (names_of network nodes)
  starts_below : AreBelow (length nodes) starts

record IsKnownFlow (nodes : List ℕ) (flow : Flow) : Type 0 where
  few : length flow.graph.edges ≤ 100000
  below : IsBelow (length nodes) flow.graph

numbers_back : (count : ℕ) (ns : List ℕ) → count ≤ 10000 → AreBelow count ns → IsReadBack 1 (numbers_data ns)
numbers_back count ns few below = list_back 0 number_data ns (All-weaker (λ (n : ℕ). n < count) (λ (n : ℕ). IsReadBack 0 (number_data n)) (λ n lt. number_back n (omega (arith, lt, few))) ns below)

edge_back : (count : ℕ) (edge : ℕ × ℕ) → count ≤ 10000 → Joins count edge → IsReadBack 1 (edge_data edge)
edge_back count edge few join =
    let Below : ℕ → Type 0 = λ n. n < count in
    numbers_back count (edge.0 ∷ edge.1 ∷ []) few (All-cons Below edge.0 (edge.1 ∷ []) join.0 (All-cons Below edge.1 [] join.1 (All-nil Below)))

known_back : (network : Network) (nodes starts : List ℕ) (flow : Flow) → IsKnown network nodes starts → IsKnownFlow nodes flow → IsReadBack 3 (flow_data (names_of network nodes) starts flow)
known_back network nodes starts flow known is =
    let prefix : Data = string (text_of (V4 flow.class)) in
    let count : ℕ = length nodes in
    let prefix_back : IsReadBack 2 prefix = deeper 0 2 prefix (omega arith) (string_back (text_of (V4 flow.class)) (prefix_plain flow.class)) in
    let back : (ns : List ℕ) → AreBelow count ns → IsReadBack 2 (numbers_data ns) = λ ns below. deeper 1 2 (numbers_data ns) (omega arith) (numbers_back count ns known.few below) in
    flow_back 2 (numbers_data flow.graph.delivered) (numbers_data flow.graph.dropped) prefix (list_data edge_data flow.graph.edges) prefix (list_data string (names_of network nodes)) (numbers_data starts)
    (back flow.graph.delivered is.below.delivered) (back flow.graph.dropped is.below.dropped) prefix_back
    (list_back 1 edge_data flow.graph.edges (All-weaker (Joins count) (λ (edge : ℕ × ℕ). IsReadBack 1 (edge_data edge)) (λ edge join. edge_back count edge known.few join) flow.graph.edges is.below.edges))
    prefix_back
    (deeper 1 2 (list_data string (names_of network nodes)) (omega arith) (list_back 0 string (names_of network nodes) (All-weaker (All IsPlain) (λ (s : List ℕ). IsReadBack 0 (string s)) (λ s plain. string_back s plain) (names_of network nodes) known.plain)))
    (back starts known.starts_below)

text_read : (network : Network) (nodes starts : List ℕ) (flows : List Flow) → IsKnown network nodes starts → All (IsKnownFlow nodes) flows
    → reading (compact_text (snapshot_data (names_of network nodes) starts flows) ++ 10 ∷ []) ≡ Some (snapshot_data (names_of network nodes) starts flows)
text_read network nodes starts flows known each =
    let one : Flow → Data = flow_data (names_of network nodes) starts in
    line_reading 5 (snapshot_data (names_of network nodes) starts flows) (omega arith)
    (snapshot_back 4 (list_data one flows) (number_data 1)
    (list_back 3 one flows (All-weaker (IsKnownFlow nodes) (λ (flow : Flow). IsReadBack 3 (one flow)) (λ flow is. known_back network nodes starts flow known is) flows each))
    (deeper 0 4 (number_data 1) (omega arith) (number_back 1 (omega arith))))

-- ---- the walk over the flows

abbrev Before : ℕ → Flow → Type 0
Before from flow = flow.class.address < from

-- no flow of an earlier class has the name
new_name : (network : Network) (nodes starts : List ℕ) (earlier : List Flow) (class : Ipv4Prefix) → All (Before class.address) earlier → has_name (listed_names (map (listed_flow network nodes starts) earlier)) (text_of (V4 class)) ≡ false
new_name network nodes starts [] class before = refl
new_name network nodes starts (flow ∷ earlier) class before =
    let lt : flow.class.address < class.address = All-head (Before class.address) flow earlier before in
    let s : List ℕ = text_of (V4 class) in
    let t : List ℕ = text_of (V4 flow.class) in
    let apart : bytes_eq s t ≡ false = bytes_apart (bytes_eq s t) s t refl (λ e. omega (arith, lt, same_address class flow.class e)) in
    rw (apart, new_name network nodes starts earlier class (All-tail (Before class.address) flow earlier before)) refl

readable : (network : Network) (nodes starts : List ℕ) (flow : Flow) → IsKnown network nodes starts → IsKnownFlow nodes flow → IsReadable network (length (map (node_in network) nodes)) nodes starts flow.graph
readable network nodes starts flow known is =
    let same : length nodes ≡ length (map (node_in network) nodes) = sym (length-map nodes (node_in network)) in
    record {
      few_nodes = omega (arith, known.few, length-map (names_of network nodes) string, length-map nodes (name_of Interface network));
      few_edges = omega (arith, is.few, length-map flow.graph.edges edge_data);
      found = known.found;
      starts_below = subst (λ (count : ℕ). AreBelow count starts) same known.starts_below;
      below = subst (λ (count : ℕ). IsBelow count flow.graph) same is.below;
    }

walk : AreLaws → (network : Network) (nodes starts : List ℕ) (from to : ℕ) (earlier flows : List Flow) → IsKnown network nodes starts → All (IsKnownFlow nodes) flows → length earlier + length flows ≤ 10000 → All (Before from) earlier → Adjoin from (classes_of flows) to
    → AreFlows network (value_in (version_of 1) tt) (map (listed_flow network nodes starts) earlier) (map (flow_data (names_of network nodes) starts) flows) (Ok (map (listed_flow network nodes starts) (earlier ++ flows)))
unfolding AreFlows
walk laws network nodes starts from to earlier [] known each few before adjoin = ap (λ (fs : List Flow). Ok (map (listed_flow network nodes starts) fs)) (append-nil earlier)
walk laws network nodes starts from to earlier (flow ∷ flows) known each few before adjoin =
    let L : Flow → ListedFlow = listed_flow network nodes starts in
    let D : Flow → Data = flow_data (names_of network nodes) starts in
    let class : Ipv4Prefix = flow.class in
    let next : ℕ = from + 2 ^ (32 - class.length) in
    let names : List (List ℕ) = listed_names (map L earlier) in
    let count : length names ≡ length earlier = length-map (map L earlier) (λ (listed : ListedFlow). listed.class.name) ∙ length-map earlier L in
    let known_flow : IsKnownFlow nodes flow = All-head (IsKnownFlow nodes) flow flows each in
    let one : IsFlow network (value_in (version_of 1) tt) names (D flow) (Ok (L flow)) =
    flow_read laws network names nodes starts flow.graph (text_of (V4 class)) class (omega (arith, count, few)) (prefix_named class)
    (new_name network nodes starts earlier class (subst (λ (a : ℕ). All (Before a) earlier) (sym adjoin.0) before)) (laws.texts (V4 class)) (readable network nodes starts flow known known_flow) in
    let grows : from < next = omega (arith, pow_pos (32 - class.length)) in
    let before_next : All (Before next) (earlier ++ flow ∷ []) = All-push (Before next) earlier flow (All-weaker (Before from) (Before next) (λ e lt. omega (arith, lt, grows)) earlier before) (omega (arith, adjoin.0, grows)) in
    let rest : AreFlows network (value_in (version_of 1) tt) (map L (earlier ++ flow ∷ [])) (map D flows) (Ok (map L ((earlier ++ flow ∷ []) ++ flows))) =
    walk laws network nodes starts next to (earlier ++ flow ∷ []) flows known (All-tail (IsKnownFlow nodes) flow flows each) (omega (arith, few, length-append earlier (flow ∷ []))) before_next adjoin.1 in (
      Ok (L flow),
      one,
      subst (λ (es : List ListedFlow). AreFlows network (value_in (version_of 1) tt) es (map D flows) (Ok (map L (earlier ++ flow ∷ flows)))) (map-append L earlier (flow ∷ []))
          (subst (λ (fs : List Flow). AreFlows network (value_in (version_of 1) tt) (map L (earlier ++ flow ∷ [])) (map D flows) (Ok (map L fs))) (append_assoc earlier (flow ∷ []) flows) rest),
    )

-- ---- the snapshot

known_of : (network : Network) (f other : Forwarding) (d : Drawn) → IsAlphabet (alphabet_of Interface network) → IsForwardingIn network f → IsDrawn network f other d → IsFew d → IsKnown network d.nodes d.starts
known_of network f other d names located is few =
    let nodes : AreInterfaces network d.nodes = nodes_located network f d.nodes located is.nodes in
    record { few = few.nodes; found = nodes_found network d.nodes names nodes; plain = names_plain network d.nodes names nodes; starts_below = is.starts.below }

flows_known : (network : Network) (f other : Forwarding) (d : Drawn) → IsDrawn network f other d → IsFew d → All (IsKnownFlow d.nodes) d.flows
flows_known network f other d is few = λ k flow lt.
    let x : Flow = get_or d.flows k flow in
    record { few = few.edges k flow lt; below = graph_below network f d.nodes x.class.address x.graph (is.graphs k flow lt x.class.address (holds_own x.class)) }

drawn_loads : AreLaws → (network : Network) (f other : Forwarding) (d : Drawn) → IsAlphabet (alphabet_of Interface network) → IsForwardingIn network f → IsDrawn network f other d → IsFew d → Load network (snapshot_bytes network d) (Ok (listed_flows network d))
unfolding Load IsSnapshot
drawn_loads laws network f other d names located is few =
    let known : IsKnown network d.nodes d.starts = known_of network f other d names located is few in
    let each : All (IsKnownFlow d.nodes) d.flows = flows_known network f other d is few in
    let root : Data = snapshot_data (names_of network d.nodes) d.starts d.flows in
    let entries : List Data = map (flow_data (names_of network d.nodes) d.starts) d.flows in (
      Ok root,
      sym (ap (ok_or NotJson) (text_read network d.nodes d.starts d.flows known each)),
      (Ok ((value_in (version_of 1) tt), entries), sym (contents_read entries), walk laws network d.nodes d.starts 0 (2 ^ 32) [] d.flows known each (omega (arith, few.flows)) (All-nil (Before 0)) is.classes.in_order),
    )

pub loads_as : AreLaws → (network : Network) (f other : Forwarding) (text : List ℕ) → IsAlphabet (alphabet_of Interface network) → IsForwardingIn network f → AreTables f.tables → IsSnapshotOf network f other text → LoadsAs network f other text
loads_as laws network f other text names located tables is = λ d drawn_from.
    let same : is.drawn ≡ d = drawn_unique laws network f other is.drawn d tables is.drawn_from drawn_from in
    subst (λ (d : Drawn). Load network text (Ok (listed_flows network d))) same
    (subst (λ (t : List ℕ). Load network t (Ok (listed_flows network is.drawn))) (sym is.bytes) (drawn_loads laws network f other is.drawn names located is.drawn_from is.few))
