-- What the walk of a file makes of the members that a plain flow has.
use Rattle.std.proofs.Common.{◌≡◌, ◌∙◌, refl, sym, ap, ℕ, ◌<◌, ◌≤◌, Bool, cond, List, [], ◌∷◌, length, map, Option, Some, None, option_map, Result, Ok, Err, codes, le-ltb, lt-ltb, subst, arith, Bor, zero, suc, get_or}
use Rattle.std.specs.Prelude.{◌↔◌, nat_lt, Contains, IfNone, IfOk, IfSome}
use Rattle.std.specs.List.{All}
use Rattle.std.proofs.lemmas.List.{length-map}
use Rattle.std.proofs.lemmas.List.Elements.{All-head, All-tail}
use Rattle.serde_json.specs.Data.{Data, no_members, string}
use Rattle.serde_json.specs.Find.{get_member}
use Rattle.serde_json.specs.View.{items_of}
use Rattle.rela_json.specs.declared.error.ListError.TheVariants.{Index}
use Rattle.rela_json.specs.declared.error.LoadError.{LoadError}
use Rattle.rela_json.specs.declared.error.LoadError.TheVariants.{TooMany}
use Rattle.rela_json.specs.Fields.{entries_of, few_entries_of, part_of, string_of, two_entries_of, whole_number_of}
use Rattle.rela_json.specs.Indexes.{index_of}
use Rattle.rela_json.specs.Parts.{list_of as entries_in, member_of}
use Rattle.rela_json.specs.Results.{◌>>=◌, try_map}
use Rattle.rela_flows.specs.declared.prefix.Prefix.{Prefix}
use Rattle.rela_graph.specs.declared.node.Link.{Link}
use Rattle.rela_graph.specs.declared.node.Node.{Node}
use Rattle.rela_graph.specs.Topology.{Topology, HasEdge, IsDelivered, IsDropped, IsStart, JoinsNodes}
use Rattle.rela_locations.specs.Network.{Network}
use Rattle.json.specs.Token.{Token}
use Rattle.rela_tokens.specs.Holds.{Holds}
use Rattle.rela_tokens.specs.Objects.{puts}
use Rattle.rela_tokens.specs.Pieces.{data_of, list, pair, text, whole}
use Rattle.rela_tokens.specs.Pieces.{member_of as named_data}
use Rattle.rela_tokens.specs.declared.piece.Piece.{Piece}
use Rattle.rela_tokens.specs.declared.piece.Member.{Member}
use Rattle.rela_snapshot.specs.declared.class.Family.{Family}
use Rattle.rela_snapshot.specs.declared.class.Family.TheVariants.{Ipv4}
use Rattle.rela_snapshot.specs.declared.version.Version.TheVariants.{One}
use Rattle.rela_snapshot.specs.Class.{IsPrefixOf, class_name_of, class_of, dst_text_of, family_of, flow_name_of, name_of, new_name_of, src_text_of, unused_name_of, whole_family}
use Rattle.rela_snapshot.specs.declared.snapshot.Flow.{Flow}
use Rattle.rela_snapshot.specs.FlowEntry.{ListedFlow, graph_of, next_name_of}
use Rattle.rela_snapshot.specs.Flows.{IsDst, IsFlow, IsFlowNamed, IsFlowOf, IsSrc}
use Rattle.rela_snapshot.specs.Listed.{IsGraphOf, Listed}
use Rattle.rela_snapshot.specs.Nodes.{node_at}
use Rattle.rela_snapshot.specs.Numbered.{edge_of, index_in, list_of, node_of, numbered_edges_of, numbered_nodes_of, numbered_of, optional_list_of, optional_places_of, or_place_error, places_of}
use Rattle.rela_snapshot.specs.Plain.{IsPlainFlow, entry_of}
use Rattle.rela_snapshot.specs.Steps.{IsAnswer}
use Rattle.rela_snapshot.specs.Version.{flow_rules}
use Rattle.rela_snapshot.proofs.FlowLaws.{flow_named}
use Rattle.rela_snapshot.proofs.StepLaws.{value_next}

-- ---- lists

pub entries_are : (ds : List Data) → entries_in (items_of ds) ≡ ds
entries_are [] = refl
entries_are (d ∷ ds) = ap (λ (es : List Data). d ∷ es) (entries_are ds)

few_entries : (most rule row : ℕ) (ds : List Data) → length ds ≤ most → few_entries_of most rule row (Some (list ds)) ≡ Ok ds
unfolding few_entries_of entries_of
few_entries most rule row ds few =
    let check : List Data → Result (List Data) LoadError = λ es. cond (nat_lt most (length es)) (Err (TooMany row)) (Ok es) in
    ap check (entries_are ds) ∙ ap (λ (b : Bool). cond b (Err (TooMany row)) (Ok ds)) (le-ltb most (length ds) few)

-- ---- the name, the prefixes and the class

name_read : (names : List (List ℕ)) (d : Data) (bytes name : List ℕ) → length names < 10000 → member_of (codes "name") d ≡ Some (Some (string bytes)) → unused_name_of names (length names) bytes ≡ Ok name
    → next_name_of One names d ≡ Ok name
unfolding next_name_of new_name_of flow_name_of unused_name_of part_of string_of
name_read names d bytes name room has is = rw (lt-ltb (length names) 10000 room, has) is

pub name_kept : (names : List (List ℕ)) (row : ℕ) (d : Data) (bytes text name : List ℕ) → row ≡ length names → row < 10000 → bytes ≡ text → member_of (codes "name") d ≡ Some (Some (string text))
    → unused_name_of names row bytes ≡ Ok name → next_name_of One names d ≡ Ok name
name_kept names row d bytes text name at room same has is =
    name_read names d bytes name (omega arith) (has ∙ ap (λ (s : List ℕ). Some (Some (string s))) (sym same)) (subst (λ (row : ℕ). unused_name_of names row bytes ≡ Ok name) at is)

dst_read : (row : ℕ) (d : Data) (bytes : List ℕ) (dst : Prefix) → member_of (codes "dst") d ≡ Some (Some (string bytes)) → IsAnswer (IsPrefixOf (Some Ipv4) row bytes) (Ok dst)
    → IsAnswer (IsDst One row d) (Ok dst)
unfolding IsDst dst_text_of part_of string_of
dst_read row d bytes dst has is = value_next _ _ bytes (Ok dst) (rw has refl) is

pub dst_kept : {E : Type 0} (row : ℕ) (d : Data) (bytes text : List ℕ) (r : Result Prefix E) → bytes ≡ text → member_of (codes "dst") d ≡ Some (Some (string text))
    → IfOk r (λ dst. IsAnswer (IsPrefixOf (Some Ipv4) row bytes) (Ok dst)) → IfOk r (λ dst. IsAnswer (IsDst One row d) (Ok dst))
dst_kept row d bytes text (Ok dst) same has is = dst_read row d bytes dst (has ∙ ap (λ (s : List ℕ). Some (Some (string s))) (sym same)) is
dst_kept row d bytes text (Err e) same has is = tt

-- the bytes of a text that may be missing
abbrev pub AreBytes : Option (Bor (List ℕ)) → List ℕ → List ℕ → Type 0
AreBytes None other bytes = bytes ≡ other
AreBytes (Some s) other bytes = bytes ≡ s.now

pub are_bytes : (o : Option (Bor (List ℕ))) (other bytes : List ℕ) → IfSome o (λ s. bytes ≡ s.now) → IfNone o (bytes ≡ other) → AreBytes o other bytes
are_bytes None other bytes given missing = missing
are_bytes (Some s) other bytes given missing = given

src_read : (row : ℕ) (d : Data) (o : Option (Bor (List ℕ))) (bytes : List ℕ) (dst src : Prefix) → AreBytes o (whole_family (family_of dst)) bytes → member_of (codes "src") d ≡ Some (option_map text o)
    → IsAnswer (IsPrefixOf (Some (family_of dst)) row bytes) (Ok src) → IsAnswer (IsSrc One row dst d) (Ok src)
unfolding IsSrc src_text_of part_of string_of
src_read row d None bytes dst src same has is = value_next _ _ bytes (Ok src) (rw has (ap (λ (s : List ℕ). Ok s) (sym same))) is
src_read row d (Some s) bytes dst src same has is = value_next _ _ bytes (Ok src) (rw has (ap (λ (s : List ℕ). Ok s) (sym same))) is

pub src_kept : {E : Type 0} (row : ℕ) (d : Data) (o : Option (Bor (List ℕ))) (bytes whole : List ℕ) (family : Family) (dst : Prefix) (r : Result Prefix E) → family ≡ family_of dst → whole ≡ whole_family family
    → AreBytes o whole bytes → member_of (codes "src") d ≡ Some (option_map text o) → IfOk r (λ src. IsAnswer (IsPrefixOf (Some family) row bytes) (Ok src)) → IfOk r (λ src. IsAnswer (IsSrc One row dst d) (Ok src))
src_kept row d o bytes whole family dst (Ok src) same all are has is =
    src_read row d o bytes dst src (subst (λ (w : List ℕ). AreBytes o w bytes) (all ∙ ap whole_family same) are) has (subst (λ (f : Family). IsAnswer (IsPrefixOf (Some f) row bytes) (Ok src)) same is)
src_kept row d o bytes whole family dst (Err e) same all are has is = tt

class_read : (row : ℕ) (d : Data) (o : Option (Bor (List ℕ))) (bytes name : List ℕ) → AreBytes o (codes "default") bytes → member_of (codes "class") d ≡ Some (option_map text o) → name_of row bytes ≡ Ok name
    → class_of (flow_rules One) row d ≡ Ok name
unfolding class_of class_name_of part_of string_of
class_read row d None bytes name same has is = rw has (ap (name_of row) (sym same) ∙ is)
class_read row d (Some s) bytes name same has is = rw has (ap (name_of row) (sym same) ∙ is)

pub class_kept : {E : Type 0} (row : ℕ) (d : Data) (o : Option (Bor (List ℕ))) (bytes : List ℕ) (r : Result (List ℕ) E) → AreBytes o (codes "default") bytes → member_of (codes "class") d ≡ Some (option_map text o)
    → IfOk r (λ name. name_of row bytes ≡ Ok name) → IfOk r (λ name. class_of (flow_rules One) row d ≡ Ok name)
class_kept row d o bytes (Ok name) same has is = class_read row d o bytes name same has is
class_kept row d o bytes (Err e) same has is = tt

-- ---- the lists of a graph

pub nodes_read : (network : Network) (row : ℕ) (d : Data) (names : List (Bor (List ℕ))) (nodes : List Node) → member_of (codes "nodes") d ≡ Some (Some (list (map text names))) → length names ≤ 10000
    → try_map (node_of network row) (map text names) ≡ Ok nodes → numbered_nodes_of network row d ≡ Ok nodes
unfolding numbered_nodes_of part_of
nodes_read network row d names nodes has few is =
    rw has (ap (λ (r : Result (List Data) LoadError). r >>= try_map (node_of network row)) (few_entries 10000 29 row (map text names) (omega (arith, few, length-map names text))) ∙ is)

pub edge_read : (count row a b : ℕ) (edge : Link) → edge.a ≡ a → edge.b ≡ b → JoinsNodes count edge → edge_of count row (pair (a, b)) ≡ Ok edge
unfolding edge_of two_entries_of entries_of whole_number_of index_in
edge_read count row a b edge from to joins =
    let below_a : a < count = omega (arith, joins.0) in
    let below_b : b < count = omega (arith, joins.1) in
    rw (lt-ltb a count below_a, lt-ltb b count below_b, sym from, sym to) refl

pub edges_read : (count row : ℕ) (d : Data) (pairs : List (ℕ × ℕ)) (edges : List Link) → member_of (codes "edges") d ≡ Some (Some (list (map pair pairs))) → length pairs ≤ 100000
    → try_map (edge_of count row) (map pair pairs) ≡ Ok edges → numbered_edges_of count row d ≡ Ok edges
unfolding numbered_edges_of part_of
edges_read count row d pairs edges has few is =
    rw has (ap (λ (r : Result (List Data) LoadError). r >>= try_map (edge_of count row)) (few_entries 100000 31 row (map pair pairs) (omega (arith, few, length-map pairs pair))) ∙ is)

number_read : (count n : ℕ) → n < count → index_of count (whole n) ≡ Ok n
number_read count n lt = ap (λ (b : Bool). cond b (Ok n) (Err Index)) (lt-ltb n count lt)

numbers_read : (count : ℕ) (ns : List ℕ) → All (λ n. n < count) ns → try_map (index_of count) (map whole ns) ≡ Ok ns
numbers_read count [] h = refl
numbers_read count (n ∷ ns) h = rw (number_read count n (All-head (λ (n : ℕ). n < count) n ns h), numbers_read count ns (All-tail (λ (n : ℕ). n < count) n ns h)) refl

places_read : (count rule row : ℕ) (ns : List ℕ) → All (λ n. n < count) ns → places_of count rule row (list (map whole ns)) ≡ Ok ns
unfolding places_of
places_read count rule row ns h = ap (λ ds. or_place_error rule row (try_map (index_of count) ds)) (entries_are (map whole ns)) ∙ ap (or_place_error rule row) (numbers_read count ns h)

pub list_read : (name : List ℕ) (count rule row : ℕ) (d : Data) (ns : List ℕ) → member_of name d ≡ Some (Some (list (map whole ns))) → All (λ n. n < count) ns → list_of name count rule row d ≡ Ok ns
unfolding list_of part_of
list_read name count rule row d ns has h = rw has (places_read count rule row ns h)

pub optional_list_read : (name : List ℕ) (count rule row : ℕ) (d : Data) (ns : List ℕ) → member_of name d ≡ Some (Some (list (map whole ns))) → All (λ n. n < count) ns → optional_list_of name count rule row d ≡ Ok ns
unfolding optional_list_of optional_places_of part_of
optional_list_read name count rule row d ns has h = rw has (places_read count rule row ns h)

pub optional_list_missing : (name : List ℕ) (count rule row : ℕ) (d : Data) (ns : List ℕ) → member_of name d ≡ Some None → ns ≡ [] → optional_list_of name count rule row d ≡ Ok ns
unfolding optional_list_of optional_places_of part_of
optional_list_missing name count rule row d ns has none = rw (has, none) refl

-- ---- the graph

abbrev pub listed_as : List Node → List Link → List ℕ → List ℕ → List ℕ → Listed
listed_as nodes edges starts delivered dropped = record { nodes = nodes; edges = edges; starts = starts; delivered = delivered; dropped = dropped }

pub graph_read : (network : Network) (row count : ℕ) (d : Data) (nodes : List Node) (edges : List Link) (starts delivered dropped : List ℕ) → count ≡ length nodes → numbered_nodes_of network row d ≡ Ok nodes
    → numbered_edges_of count row d ≡ Ok edges → list_of (codes "starts") count 33 row d ≡ Ok starts → optional_list_of (codes "delivered") count 34 row d ≡ Ok delivered
    → optional_list_of (codes "dropped") count 35 row d ≡ Ok dropped → graph_of network One row d ≡ Ok (listed_as nodes edges starts delivered dropped)
unfolding graph_of numbered_of
graph_read network row count d nodes edges starts delivered dropped same is_nodes is_edges is_starts is_delivered is_dropped =
    rw (is_nodes, sym same, is_edges, is_starts, is_delivered, is_dropped) refl

pub graph_made : (g : Topology) (nodes : List Node) (edges slice : List Link) (starts delivered dropped : List ℕ) → slice ≡ edges → g.nodes ≡ nodes → ((a b : ℕ) → HasEdge g a b ↔ Contains slice (record { a = a; b = b }))
    → ((n : ℕ) → IsStart g n ↔ Contains starts n) → ((n : ℕ) → IsDelivered g n ↔ Contains delivered n) → ((n : ℕ) → IsDropped g n ↔ Contains dropped n) → IsGraphOf (listed_as nodes edges starts delivered dropped) g
graph_made g nodes edges slice starts delivered dropped same ns es ss ds ps =
    subst (λ (edges : List Link). IsGraphOf (listed_as nodes edges starts delivered dropped) g) same (record { nodes = ns; edges = es; starts = ss; delivered = ds; dropped = ps })

-- ---- the flow

pub plain_kept : {E : Type 0} (network : Network) (names : List (List ℕ)) (old new : List Token) (items now : List Member) (r : Result Flow E) → now ≡ items → Holds 3 old (entry_of items) new
    → IfOk r (λ flow. (listed : ListedFlow) × IsAnswer (IsFlow network One names (entry_of now)) (Ok listed) × IsFlowOf listed flow) → IfOk r (λ flow. IsPlainFlow network names old flow new)
plain_kept network names old new items now (Ok flow) same held one =
    record {
      entry = entry_of items;
      listed = one.0;
      held = held;
      answer = subst (λ (ms : List Member). IsAnswer (IsFlow network One names (entry_of ms)) (Ok one.0)) same one.1;
      same = one.2;
    }
plain_kept network names old new items now (Err e) same held one = tt

-- a flow of a name that was read, by its row
pub plain_named : {E : Type 0} (network : Network) (names : List (List ℕ)) (d : Data) (row : ℕ) (name : List ℕ) (r : Result Flow E) → next_name_of One names d ≡ Ok name → row ≡ length names
    → IfOk r (λ flow. (listed : ListedFlow) × IsAnswer (IsFlowNamed network One row name d) (Ok listed) × IsFlowOf listed flow)
    → IfOk r (λ flow. (listed : ListedFlow) × IsAnswer (IsFlow network One names d) (Ok listed) × IsFlowOf listed flow)
plain_named network names d row name (Ok flow) is at h = (h.0, flow_named network One names d row name (Ok h.0) is at h.1, h.2)
plain_named network names d row name (Err e) is at h = tt

-- ---- what a look-up among the members shows

pub found_is : (name : List ℕ) (ms : List Member) (o : Option (Bor Piece)) (piece : Bor Piece) (x : Data) → option_map (λ (p : Bor Piece). data_of p.now) o ≡ get_member name (puts (map named_data ms) no_members)
    → o ≡ Some piece → data_of piece.now ≡ x → member_of name (entry_of ms) ≡ Some (Some x)
found_is name ms o piece x found some is = ap (λ (r : Option Data). Some r) (sym found ∙ ap (option_map (λ (p : Bor Piece). data_of p.now)) some ∙ ap (λ (y : Data). Some y) is)

pub missing_is : (name : List ℕ) (ms : List Member) (o : Option (Bor Piece)) → option_map (λ (p : Bor Piece). data_of p.now) o ≡ get_member name (puts (map named_data ms) no_members)
    → o ≡ None → member_of name (entry_of ms) ≡ Some None
missing_is name ms o found none = ap (λ (r : Option Data). Some r) (sym found ∙ ap (option_map (λ (p : Bor Piece). data_of p.now)) none)

pub list_kept : {E : Type 0} (name : List ℕ) (count : ℕ) (d : Data) (numbers : List ℕ) (r : Result (Bor (List ℕ)) E) → member_of name d ≡ Some (Some (list (map whole numbers))) → IfOk r (λ same. same.now ≡ numbers)
    → IfOk r (λ same. All (λ n. n < count) same.now) → IfOk r (λ ns. (rule : ℕ) → (row : ℕ) → list_of name count rule row d ≡ Ok ns.now)
list_kept name count d numbers (Ok same) has is within = λ rule row. list_read name count rule row d same.now (has ∙ ap (λ (ns : List ℕ). Some (Some (list (map whole ns)))) (sym is)) within
list_kept name count d numbers (Err e) has is within = tt

pub optional_list_kept : {E : Type 0} (name : List ℕ) (count : ℕ) (d : Data) (numbers : List ℕ) (r : Result (Bor (List ℕ)) E) → member_of name d ≡ Some (Some (list (map whole numbers))) → IfOk r (λ same. same.now ≡ numbers)
    → IfOk r (λ same. All (λ n. n < count) same.now) → IfOk r (λ ns. (rule : ℕ) → (row : ℕ) → optional_list_of name count rule row d ≡ Ok ns.now)
optional_list_kept name count d numbers (Ok same) has is within = λ rule row. optional_list_read name count rule row d same.now (has ∙ ap (λ (ns : List ℕ). Some (Some (list (map whole ns)))) (sym is)) within
optional_list_kept name count d numbers (Err e) has is within = tt

pub edges_kept : {A E : Type 0} (count row : ℕ) (d : Data) (pairs : List (ℕ × ℕ)) (items : A → List Link) (r : Result A E) → member_of (codes "edges") d ≡ Some (Some (list (map pair pairs))) → length pairs ≤ 100000
    → IfOk r (λ edges. try_map (edge_of count row) (map pair pairs) ≡ Ok (items edges)) → IfOk r (λ edges. numbered_edges_of count row d ≡ Ok (items edges))
edges_kept count row d pairs items (Ok edges) has few is = edges_read count row d pairs (items edges) has few is
edges_kept count row d pairs items (Err e) has few is = tt

same_at : {X : Type 0} (xs : List X) (k : ℕ) (a b : X) → k < length xs → get_or xs k a ≡ get_or xs k b
same_at [] k a b lt = absurd (omega arith)
same_at (x ∷ xs) zero a b lt = refl
same_at (x ∷ xs) (suc k) a b lt = same_at xs k a b (omega arith)

pub node_taken : (network : Network) (row : ℕ) (names : List (Bor (List ℕ))) (i : ℕ) (one other : Bor (List ℕ)) (bytes : List ℕ) (node : Node) → i < length names → bytes ≡ (get_or names i other).now
    → node_at network row bytes ≡ Ok node → node_of network row (text (get_or names i one)) ≡ Ok node
unfolding node_of string_of
node_taken network row names i one other bytes node lt is found = ap (node_at network row) (ap (λ (b : Bor (List ℕ)). b.now) (same_at names i one other lt) ∙ sym is) ∙ found
