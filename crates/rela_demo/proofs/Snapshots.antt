-- The text of a snapshot loads as the flows.
use Rattle.std.proofs.Common.{◌≡◌, ◌∙◌, refl, sym, ap, ap₂, ℕ, ◌+◌, ◌-◌, ◌*◌, ◌%◌, ◌^◌, ◌<◌, ◌≤◌, false, List, [], ◌∷◌, ◌++◌, length, map, append_assoc, get_or, Ok, codes, decimal, arith}
use Rattle.std.proofs.Common.{lit<, subst, Bool, true}
use Rattle.std.specs.List.{All}
use Rattle.std.proofs.lemmas.Fmt.{decimal_digit, length-decimal-le}
use Rattle.std.proofs.lemmas.List.{length-append, length-map}
use Rattle.std.proofs.lemmas.List.Elements.{All-cons, All-head, All-nil, All-tail, All-weaker}
use Rattle.json.specs.Print.{escape, escape_byte}
use Rattle.serde_json.specs.Data.{Data, array, member, no_members, string}
use Rattle.serde_json.specs.View.{items_of}
use Rattle.serde_json.specs.Written.{comma_if, compact_text, items_text}
use Rattle.rela_graph.specs.declared.node.Link.{Link}
use Rattle.rela_json.specs.declared.error.LoadError.TheVariants.{NotJson}
use Rattle.rela_json.specs.Results.{ok_or}
use Rattle.rela_snapshot.specs.FlowEntry.{ListedFlow}
use Rattle.rela_snapshot.specs.Flows.{AreFlows, IsFlow}
use Rattle.rela_snapshot.specs.Load.{IsSnapshot, Load}
use Rattle.rela_snapshot.specs.Names.{has_name}
use Rattle.rela_snapshot.specs.Version.{version_of}
use Rattle.rela_demo.specs.Flows.{address_of, class, classes, destination, flows_with, graphs, listed, node_of}
use Rattle.rela_demo.specs.Layers.{Graph, cut, layered, lost, node_labels}
use Rattle.rela_demo.specs.Locations.{network}
use Rattle.rela_demo.specs.Names.{Label, label_a, interface_name, labels_from}
use Rattle.rela_demo.specs.Pieces.{Writes, array_text, commas, flow_text, node_text, nodes_text, snapshot_text}
use Rattle.rela_demo.specs.Text.{destination_text, edge_data, edges_data, flow_data, flow_name, flows_data, node_data, nodes_data, number_data, numbers_data, snapshot_data, written_snapshot}
use Rattle.rela_demo.specs.declared.snapshot.GraphText.{GraphText}
use Rattle.rela_demo.proofs.Arrays.{array_length, list_is}
use Rattle.rela_demo.proofs.Below.{AreBelow, IsBelow, IsSmall, Joins, cut_below, cut_small, layered_below, layered_small, length_labels, lost_below, lost_small}
use Rattle.rela_demo.proofs.Entries.{IsNumber, IsReadable, contents_read, flow_read, value_in}
use Rattle.rela_demo.proofs.Found.{nodes_found}
use Rattle.rela_demo.proofs.LabelNames.{IsLabel, are_labels, digit_named, first_label}
use Rattle.rela_demo.proofs.Plain.{IsPlain, name_escape, name_plain, plain_escape}
use Rattle.rela_demo.proofs.Prefixes.{destination_is}
use Rattle.rela_demo.proofs.ReadBack.{IsReadAs, IsReadBack, array_back, deeper, flow_back, list_back, number_back, string_back, text_reading, two_as}

-- ---- the nodes

node_count : (n : ℕ) → 1 ≤ n → length (node_labels n) ≡ 2 * n - 1
node_count n some = omega (arith, some, length_labels 2 (n - 1))

-- the number of nodes that a listing has
abbrev listed_count : ℕ → ℕ
listed_count n = length (map (node_of (network n)) (node_labels n))

listed_nodes : (n : ℕ) → 1 ≤ n → listed_count n ≡ 2 * n - 1
listed_nodes n some = length-map (node_labels n) (node_of (network n)) ∙ node_count n some

pub nodes_labelled : (n : ℕ) → All IsLabel (node_labels n)
nodes_labelled n = All-cons IsLabel (label_a 1) (labels_from 2 (n - 1)) first_label (are_labels 2 (n - 1))

-- what is known of a graph of n layers
pub record IsKnown (n : ℕ) (graph : Graph) : Type 0 where
  pub below : (count : ℕ) → 2 * n < count + 2 → 0 < count → IsBelow count graph
  pub small : IsSmall graph

readable : (n : ℕ) (graph : Graph) → 1 ≤ n → n ≤ 200 → IsKnown n graph → IsReadable n graph
readable n graph some few is = record {
  few_nodes = omega (arith, few, some, length-map (node_labels n) node_data, node_count n some);
  few_edges = omega (arith, is.small.edges, length-map graph.edges edge_data);
  found = nodes_found n some;
  some = omega (arith, some, listed_nodes n some);
  below = is.below (listed_count n) (omega (arith, some, listed_nodes n some)) (omega (arith, some, listed_nodes n some));
}

-- ---- the values are read back

numbers_back : (count : ℕ) (ns : List ℕ) → count ≤ 10000 → AreBelow count ns → IsReadBack 1 (numbers_data ns)
numbers_back count ns few below = list_back 0 number_data ns (All-weaker (λ (n : ℕ). n < count) (λ (n : ℕ). IsReadBack 0 (number_data n)) (λ n lt. number_back n (omega (arith, lt, few))) ns below)

edge_back : (count : ℕ) (edge : Link) → count ≤ 10000 → Joins count edge → IsReadBack 1 (edge_data edge)
edge_back count edge few join =
    let Below : ℕ → Type 0 = λ n. n < count in
    numbers_back count (edge.a ∷ edge.b ∷ []) few (All-cons Below edge.a (edge.b ∷ []) join.0 (All-cons Below edge.b [] join.1 (All-nil Below)))

nodes_back : (n : ℕ) → IsReadBack 1 (nodes_data (node_labels n))
nodes_back n = list_back 0 node_data (node_labels n) (All-weaker IsLabel (λ l. IsReadBack 0 (node_data l)) (λ l is. string_back (interface_name l) (name_plain (interface_name l) is.interface)) (node_labels n) (nodes_labelled n))

-- the texts of a flow's number need no escapes
record IsDigit (k : ℕ) : Type 0 where
  name : All IsPlain (flow_name k)
  dst : All IsPlain (destination_text k)
  name_escaped : escape (flow_name k) ≡ flow_name k
  dst_escaped : escape (destination_text k) ≡ destination_text k

data_back : (n k : ℕ) (graph : Graph) → 1 ≤ n → n ≤ 200 → IsDigit k → IsKnown n graph → IsReadBack 3 (flow_data n k graph)
data_back n k graph some few digit is =
    let count : ℕ = 2 * n - 1 in
    let below : IsBelow count graph = is.below count (omega (arith, some)) (omega (arith, some)) in
    let back : (ns : List ℕ) → AreBelow count ns → IsReadBack 2 (numbers_data ns) = λ ns h. deeper 1 2 (numbers_data ns) (omega arith) (numbers_back count ns (omega (arith, few)) h) in
    let text : (s : List ℕ) → All IsPlain s → IsReadBack 2 (string s) = λ s plain. deeper 0 2 (string s) (omega arith) (string_back s plain) in
    let Below : ℕ → Type 0 = λ m. m < count in
    flow_back 2 (numbers_data graph.delivered) (numbers_data graph.dropped) (string (destination_text k)) (edges_data graph.edges) (string (flow_name k)) (nodes_data (node_labels n)) (numbers_data (0 ∷ []))
    (back graph.delivered below.delivered) (back graph.dropped below.dropped) (text (destination_text k) digit.dst)
    (list_back 1 edge_data graph.edges (All-weaker (Joins count) (λ (edge : Link). IsReadBack 1 (edge_data edge)) (λ edge join. edge_back count edge (omega (arith, few)) join) graph.edges below.edges))
    (text (flow_name k) digit.name)
    (deeper 1 2 (nodes_data (node_labels n)) (omega arith) (nodes_back n))
    (back (0 ∷ []) (All-cons Below 0 [] (omega (arith, some)) (All-nil Below)))

-- ---- the pieces of a flow

abbrev front : List ℕ → List ℕ → List ℕ → List ℕ
front delivered dropped s = 123 ∷ 34 ∷ (codes "delivered" ++ 34 ∷ 58 ∷ (delivered ++ 44 ∷ 34 ∷ (codes "dropped" ++ 34 ∷ 58 ∷ (dropped ++ 44 ∷ 34 ∷ (codes "dst" ++ 34 ∷ 58 ∷ 34 ∷ s)))))

abbrev middle : List ℕ → List ℕ → List ℕ
middle edges s = 44 ∷ 34 ∷ (codes "edges" ++ 34 ∷ 58 ∷ (edges ++ 44 ∷ 34 ∷ (codes "name" ++ 34 ∷ 58 ∷ 34 ∷ s)))

abbrev back : List ℕ → List ℕ → List ℕ
back nodes start = 44 ∷ 34 ∷ (codes "nodes" ++ 34 ∷ 58 ∷ (nodes ++ 44 ∷ 34 ∷ (codes "starts" ++ 34 ∷ 58 ∷ 91 ∷ ((start ++ 93 ∷ []) ++ 125 ∷ []))))

abbrev flow_object_text : List ℕ → List ℕ → List ℕ → List ℕ → List ℕ → List ℕ → List ℕ → List ℕ
flow_object_text delivered dropped dst edges name nodes start = front delivered dropped ((dst ++ 34 ∷ []) ++ middle edges ((name ++ 34 ∷ []) ++ back nodes start))

flow_pieces : (delivered dropped dst edges name nodes : List ℕ) → front delivered dropped (dst ++ 34 ∷ middle edges (name ++ 34 ∷ back nodes (48 ∷ []))) ≡ flow_object_text delivered dropped dst edges name nodes (decimal 0)
flow_pieces delivered dropped dst edges name nodes =
    ap (λ (s : List ℕ). front delivered dropped (dst ++ 34 ∷ middle edges (name ++ 34 ∷ back nodes s))) (sym (decimal_digit 0 (omega arith)))
    ∙ ap (λ (s : List ℕ). front delivered dropped (dst ++ 34 ∷ middle edges s)) (sym (append_assoc name (34 ∷ []) (back nodes (decimal 0))))
    ∙ ap (front delivered dropped) (sym (append_assoc dst (34 ∷ []) (middle edges ((name ++ 34 ∷ []) ++ back nodes (decimal 0)))))

flow_written : (n k : ℕ) (nodes : List ℕ) (text : GraphText) (graph : Graph) → IsDigit k → Writes graph text → nodes ≡ compact_text (nodes_data (node_labels n)) → flow_text k nodes text ≡ compact_text (flow_data n k graph)
unfolding escape_byte
flow_written n k nodes text graph digit writes is =
    let delivered : List ℕ = compact_text (numbers_data graph.delivered) in
    let dropped : List ℕ = compact_text (numbers_data graph.dropped) in
    let edges : List ℕ = compact_text (edges_data graph.edges) in
    let whole : List ℕ = compact_text (nodes_data (node_labels n)) in
    let dst : List ℕ = destination_text k in
    let name : List ℕ = flow_name k in
    flow_pieces text.delivered.items text.dropped.items dst text.edges.items name nodes
    ∙ ap (λ (s : List ℕ). flow_object_text s text.dropped.items dst text.edges.items name nodes (decimal 0)) writes.delivered
    ∙ ap (λ (s : List ℕ). flow_object_text delivered s dst text.edges.items name nodes (decimal 0)) writes.dropped
    ∙ ap (λ (s : List ℕ). flow_object_text delivered dropped dst s name nodes (decimal 0)) writes.edges
    ∙ ap (λ (s : List ℕ). flow_object_text delivered dropped dst edges name s (decimal 0)) is
    ∙ ap₂ (λ (d s : List ℕ). flow_object_text delivered dropped d edges s whole (decimal 0)) (sym digit.dst_escaped) (sym digit.name_escaped)

-- ---- the digits

digit : (k : ℕ) → k < 10 → IsDigit k
digit k lt =
    let more : (x : ℕ) (s : List ℕ) → 46 ≤ x → x < 60 → All IsPlain s → All IsPlain (x ∷ s) = λ x s from to rest. All-cons IsPlain x s (omega (arith, from), λ e. omega (arith, e, to), omega (arith, to)) rest in
    let name : All IsPlain (flow_name k) = All-cons IsPlain 102 ((48 + k) ∷ []) (omega arith, λ e. omega (arith, e), omega arith) (more (48 + k) [] (omega arith) (omega (arith, lt)) (All-nil IsPlain)) in
    let fourth : All IsPlain (codes ".0/24") = more 46 (codes "0/24") (omega arith) (omega arith) (more 48 (codes "/24") (omega arith) (omega arith) (more 47 (codes "24") (omega arith) (omega arith) (more 50 (codes "4") (omega arith) (omega arith) (more 52 [] (omega arith) (omega arith) (All-nil IsPlain))))) in
    let third : All IsPlain ((48 + k) ∷ codes ".0/24") = more (48 + k) (codes ".0/24") (omega arith) (omega (arith, lt)) fourth in
    let r1 : List ℕ = (48 + k) ∷ codes ".0/24" in
    let r2 : List ℕ = 46 ∷ r1 in
    let r3 : List ℕ = 48 ∷ r2 in
    let r4 : List ℕ = 46 ∷ r3 in
    let r5 : List ℕ = 48 ∷ r4 in
    let dst : All IsPlain (destination_text k) = more 49 r5 (omega arith) (omega arith) (more 48 r4 (omega arith) (omega arith) (more 46 r3 (omega arith) (omega arith) (more 48 r2 (omega arith) (omega arith) (more 46 r1 (omega arith) (omega arith) third)))) in
    record { name = name; dst = dst; name_escaped = plain_escape (flow_name k) name; dst_escaped = plain_escape (destination_text k) dst }

-- ---- the whole text

-- the entries of an array behind a comma each, and what stands behind the array
behind : Bool → List Data → List ℕ → List ℕ
behind later [] rest = 93 ∷ rest
behind later (d ∷ ds) rest = comma_if later ++ (compact_text d ++ behind true ds rest)

items_then : (later : Bool) (ds : List Data) (rest : List ℕ) → items_text later (items_of ds) ++ rest ≡ behind later ds rest
unfolding behind
items_then later [] rest = refl
items_then later (d ∷ ds) rest =
    append_assoc (comma_if later) (compact_text d ++ items_text true (items_of ds)) rest
    ∙ ap (λ (s : List ℕ). comma_if later ++ s) (append_assoc (compact_text d) (items_text true (items_of ds)) rest ∙ ap (λ (s : List ℕ). compact_text d ++ s) (items_then true ds rest))

next : (t u s r : List ℕ) → t ≡ u → s ≡ r → t ++ 44 ∷ s ≡ u ++ 44 ∷ r
next t u s r first rest = ap₂ (λ (x y : List ℕ). x ++ 44 ∷ y) first rest

-- what is known of the text of a graph
pub record IsWritten (n : ℕ) (graph : Graph) (text : GraphText) : Type 0 where
  pub known : IsKnown n graph
  pub writes : Writes graph text

snapshot_written : (n : ℕ) (nodes : List ℕ) (first seventh eighth : GraphText) (s e : Graph) → Writes (layered n) first → Writes s seventh → Writes e eighth → nodes ≡ compact_text (nodes_data (node_labels n))
    → snapshot_text nodes first seventh eighth ≡ compact_text (written_snapshot n (graphs n s e))
unfolding behind escape_byte
snapshot_written n nodes first seventh eighth s e is_first is_seventh is_eighth is =
    let head : List ℕ → List ℕ → List ℕ = λ one s. 123 ∷ 34 ∷ (codes "version" ++ 34 ∷ 58 ∷ (one ++ 44 ∷ 34 ∷ (codes "flows" ++ 34 ∷ 58 ∷ 91 ∷ s))) in
    let end : List ℕ = 125 ∷ [] in
    let flow : ℕ → Graph → List ℕ = λ k graph. compact_text (flow_data n k graph) in
    let one : (k : ℕ) → k < 10 → flow_text k nodes first ≡ flow k (layered n) = λ k lt. flow_written n k nodes first (layered n) (digit k lt) is_first is in
    let last : flow_text 8 nodes eighth ++ 93 ∷ end ≡ flow 8 e ++ 93 ∷ end = ap (λ (t : List ℕ). t ++ 93 ∷ end) (flow_written n 8 nodes eighth e (digit 8 (omega arith)) is_eighth is) in
    ap (head (49 ∷ [])) (next _ _ _ _ (one 1 (omega arith)) (next _ _ _ _ (one 2 (omega arith)) (next _ _ _ _ (one 3 (omega arith)) (next _ _ _ _ (one 4 (omega arith)) (next _ _ _ _ (one 5 (omega arith)) (next _ _ _ _ (one 6 (omega arith))
    (next _ _ _ _ (flow_written n 7 nodes seventh s (digit 7 (omega arith)) is_seventh is) last)))))))
    ∙ ap (λ (one : List ℕ). head one (behind false (flows_data n 1 (graphs n s e)) end)) (sym (decimal_digit 1 (omega arith)))
    ∙ ap (head (decimal 1)) (sym (items_then false (flows_data n 1 (graphs n s e)) end))

flows_back : (n k : ℕ) (gs : List Graph) → 1 ≤ n → n ≤ 200 → k + length gs ≤ 10 → All (IsKnown n) gs → All (IsReadBack 3) (flows_data n k gs)
flows_back n k [] some few short are = All-nil (IsReadBack 3)
flows_back n k (g ∷ gs) some few short are =
    All-cons (IsReadBack 3) (flow_data n k g) (flows_data n (k + 1) gs) (data_back n k g some few (digit k (omega (arith, short))) (All-head (IsKnown n) g gs are)) (flows_back n (k + 1) gs some few (omega (arith, short)) (All-tail (IsKnown n) g gs are))

snapshot_back : (n : ℕ) (gs : List Graph) → 1 ≤ n → n ≤ 200 → 1 + length gs ≤ 10 → All (IsKnown n) gs → IsReadAs 5 (written_snapshot n gs) (snapshot_data n gs)
snapshot_back n gs some few short are =
    let flows : Data = array (items_of (flows_data n 1 gs)) in
    two_as 4 (codes "version") (codes "flows") (number_data 1) flows (member (codes "flows") flows (member (codes "version") (number_data 1) no_members)) refl refl refl
    (deeper 0 4 (number_data 1) (omega arith) (number_back 1 (omega arith))) (array_back 3 (flows_data n 1 gs) (flows_back n 1 gs some few short are))

-- ---- the walk over the flows

number : (k : ℕ) (earlier : List (List ℕ)) (fits : address_of k < 2 ^ 32) (zeros : address_of k % 2 ^ 8 ≡ 0) → k < 10 → length earlier < 10000 → has_name earlier (flow_name k) ≡ false → IsNumber earlier k (destination k fits zeros)
number k earlier fits zeros lt room new = record { room = room; named = rw (digit_named (48 + k) (omega arith) (omega (arith, lt))) refl; new = new; text = destination_is k fits zeros lt }

-- the flow of a number, with its graph
flow_at : ℕ → (k : ℕ) → address_of k < 2 ^ 32 → address_of k % 2 ^ 8 ≡ 0 → Graph → ListedFlow
flow_at n k fits zeros graph = record { class = class k fits zeros; graph = listed n graph }

flows_walk : (n : ℕ) (s e : Graph) → IsReadable n (layered n) → IsReadable n s → IsReadable n e → AreFlows (network n) (value_in (version_of 1) tt) [] (flows_data n 1 (graphs n s e)) (Ok (flows_with n classes (graphs n s e)))
unfolding AreFlows flow_at
flows_walk n s e first seventh eighth =
    let one : (k : ℕ) (earlier : List (List ℕ)) (fits : address_of k < 2 ^ 32) (zeros : address_of k % 2 ^ 8 ≡ 0) (graph : Graph) → k < 10 → length earlier < 10000 → has_name earlier (flow_name k) ≡ false → IsReadable n graph
    → IsFlow (network n) (value_in (version_of 1) tt) earlier (flow_data n k graph) (Ok (flow_at n k fits zeros graph)) =
    λ k earlier fits zeros graph lt room new is. flow_read n k earlier graph fits zeros (number k earlier fits zeros lt room new) is in
    let n1 : List (List ℕ) = flow_name 1 ∷ [] in
    let n2 : List (List ℕ) = flow_name 1 ∷ flow_name 2 ∷ [] in
    let n3 : List (List ℕ) = flow_name 1 ∷ flow_name 2 ∷ flow_name 3 ∷ [] in
    let n4 : List (List ℕ) = flow_name 1 ∷ flow_name 2 ∷ flow_name 3 ∷ flow_name 4 ∷ [] in
    let n5 : List (List ℕ) = flow_name 1 ∷ flow_name 2 ∷ flow_name 3 ∷ flow_name 4 ∷ flow_name 5 ∷ [] in
    let n6 : List (List ℕ) = flow_name 1 ∷ flow_name 2 ∷ flow_name 3 ∷ flow_name 4 ∷ flow_name 5 ∷ flow_name 6 ∷ [] in
    let n7 : List (List ℕ) = flow_name 1 ∷ flow_name 2 ∷ flow_name 3 ∷ flow_name 4 ∷ flow_name 5 ∷ flow_name 6 ∷ flow_name 7 ∷ [] in
    let g : Graph = layered n in (
      Ok (flow_at n 1 (lit< tt) refl g),
      one 1 [] (lit< tt) refl g (omega arith) (omega arith) refl first,
      (
        Ok (flow_at n 2 (lit< tt) refl g),
        one 2 n1 (lit< tt) refl g (omega arith) (omega arith) refl first,
        (
          Ok (flow_at n 3 (lit< tt) refl g),
          one 3 n2 (lit< tt) refl g (omega arith) (omega arith) refl first,
          (
            Ok (flow_at n 4 (lit< tt) refl g),
            one 4 n3 (lit< tt) refl g (omega arith) (omega arith) refl first,
            (
              Ok (flow_at n 5 (lit< tt) refl g),
              one 5 n4 (lit< tt) refl g (omega arith) (omega arith) refl first,
              (
                Ok (flow_at n 6 (lit< tt) refl g),
                one 6 n5 (lit< tt) refl g (omega arith) (omega arith) refl first,
                (
                  Ok (flow_at n 7 (lit< tt) refl s),
                  one 7 n6 (lit< tt) refl s (omega arith) (omega arith) refl seventh,
                  (Ok (flow_at n 8 (lit< tt) refl e), one 8 n7 (lit< tt) refl e (omega arith) (omega arith) refl eighth, refl),
                ),
              ),
            ),
          ),
        ),
      ),
    )

-- ---- the snapshot

data_loads : (n : ℕ) (s e : Graph) → 1 ≤ n → n ≤ 200 → IsKnown n (layered n) → IsKnown n s → IsKnown n e → Load (network n) (compact_text (written_snapshot n (graphs n s e))) (Ok (flows_with n classes (graphs n s e)))
unfolding Load IsSnapshot
data_loads n s e some few first seventh eighth =
    let root : Data = snapshot_data n (graphs n s e) in
    let entries : List Data = flows_data n 1 (graphs n s e) in
    let K : Graph → Type 0 = IsKnown n in
    let g : Graph = layered n in
    let g2 : List Graph = s ∷ e ∷ [] in
    let g3 : List Graph = g ∷ g2 in
    let g4 : List Graph = g ∷ g3 in
    let g5 : List Graph = g ∷ g4 in
    let g6 : List Graph = g ∷ g5 in
    let g7 : List Graph = g ∷ g6 in
    let two : All K g2 = All-cons K s (e ∷ []) seventh (All-cons K e [] eighth (All-nil K)) in
    let known : All K (graphs n s e) = All-cons K g g7 first (All-cons K g g6 first (All-cons K g g5 first (All-cons K g g4 first (All-cons K g g3 first (All-cons K g g2 first two))))) in (
      Ok root,
      sym (ap (ok_or NotJson) (text_reading 5 (written_snapshot n (graphs n s e)) (omega arith) (snapshot_back n (graphs n s e) some few (omega arith) known))),
      (Ok ((value_in (version_of 1) tt), entries), sym (contents_read entries), flows_walk n s e (readable n g some few first) (readable n s some few seventh) (readable n e some few eighth)),
    )

-- ---- the nodes' text

nodes_map : (labels : List Label) → All IsLabel labels → map node_text labels ≡ map (λ l. compact_text (node_data l)) labels
nodes_map [] are = refl
nodes_map (l ∷ labels) are = ap₂ (λ (t : List ℕ) (ts : List (List ℕ)). t ∷ ts) (ap (λ (t : List ℕ). 34 ∷ (t ++ 34 ∷ [])) (sym (name_escape (interface_name l) (All-head IsLabel l labels are).interface))) (nodes_map labels (All-tail IsLabel l labels are))

pub nodes_written : (n : ℕ) → nodes_text (node_labels n) ≡ compact_text (nodes_data (node_labels n))
nodes_written n = ap (λ (ts : List (List ℕ)). 91 ∷ (commas false ts ++ 93 ∷ [])) (nodes_map (node_labels n) (nodes_labelled n)) ∙ sym (list_is node_data (node_labels n))

pub snapshot_loads : (n : ℕ) (nodes text : List ℕ) (first seventh eighth : GraphText) (s e : Graph) → 1 ≤ n → n ≤ 200 → nodes ≡ nodes_text (node_labels n) → IsWritten n (layered n) first → IsWritten n s seventh → IsWritten n e eighth
    → text ≡ snapshot_text nodes first seventh eighth → Load (network n) text (Ok (flows_with n classes (graphs n s e)))
snapshot_loads n nodes text first seventh eighth s e some few nodes_are is_first is_seventh is_eighth is =
    subst (λ (t : List ℕ). Load (network n) t (Ok (flows_with n classes (graphs n s e))))
    (sym (is ∙ snapshot_written n nodes first seventh eighth s e is_first.writes is_seventh.writes is_eighth.writes (nodes_are ∙ nodes_written n)))
    (data_loads n s e some few is_first.known is_seventh.known is_eighth.known)

-- ---- lengths

-- the list has at most so many
record IsShort (m : ℕ) (s : List ℕ) : Type 0 where
  few : length s ≤ m

both_short : {m k : ℕ} {x y : List ℕ} → IsShort m x → IsShort k y → IsShort (m + k) (x ++ y)
both_short {m} {k} {x} {y} first second = record { few = omega (arith, first.few, second.few, length-append x y) }

shorter : {m : ℕ} {s : List ℕ} → IsShort m s → (k : ℕ) → m ≤ k → IsShort k s
shorter {m} {s} is k le = record { few = omega (arith, is.few, le) }

own_length : (s : List ℕ) → IsShort (length s) s
own_length s = record { few = omega arith }

edge_length : (count : ℕ) (edge : Link) → count ≤ 10000 → Joins count edge → length (compact_text (edge_data edge)) ≤ 13
edge_length count edge few join =
    let a : length (decimal edge.a) ≤ 5 = length-decimal-le 5 edge.a (omega arith) (omega (arith, join.0, few)) (omega (arith, join.0, few)) in
    let b : length (decimal edge.b) ≤ 5 = length-decimal-le 5 edge.b (omega arith) (omega (arith, join.1, few)) (omega (arith, join.1, few)) in
    omega (arith, a, b, length-append (decimal edge.a) (44 ∷ (decimal edge.b ++ 93 ∷ [])), length-append (decimal edge.b) (93 ∷ []))

edges_length : (count : ℕ) (edges : List Link) (text : List ℕ) → count ≤ 10000 → All (Joins count) edges → length edges ≤ 800 → text ≡ compact_text (edges_data edges) → IsShort 12000 text
edges_length count edges text few join small is =
    let f : Link → List ℕ = λ edge. compact_text (edge_data edge) in
    let entries : length (array_text f edges) ≤ 14 * length edges + 2 = array_length 13 f edges (All-weaker (Joins count) (λ edge. length (f edge) ≤ 13) (λ edge h. edge_length count edge few h) edges join) in
    record { few = omega (arith, small, entries, ap length (is ∙ list_is edge_data edges)) }

numbers_length : (count : ℕ) (ns text : List ℕ) → count ≤ 10000 → AreBelow count ns → length ns ≤ 2 → text ≡ compact_text (numbers_data ns) → IsShort 14 text
numbers_length count ns text few below small is =
    let f : ℕ → List ℕ = λ m. compact_text (number_data m) in
    let entries : length (array_text f ns) ≤ 6 * length ns + 2 = array_length 5 f ns (All-weaker (λ (m : ℕ). m < count) (λ m. length (f m) ≤ 5) (λ m lt. length-decimal-le 5 m (omega arith) (omega (arith, lt, few)) (omega (arith, lt, few))) ns below) in
    record { few = omega (arith, small, entries, ap length (is ∙ list_is number_data ns)) }

node_length : (l : Label) → length (node_text l) ≤ 8
node_length l = omega arith

nodes_length : (n : ℕ) (text : List ℕ) → 1 ≤ n → n ≤ 200 → text ≡ nodes_text (node_labels n) → length text ≤ 4000
nodes_length n text some few is =
    let entries : length (array_text node_text (node_labels n)) ≤ 9 * length (node_labels n) + 2 = array_length 8 node_text (node_labels n) (λ k d within. node_length (get_or (node_labels n) k d)) in
    omega (arith, some, few, entries, node_count n some, ap length is)

-- the lists of a graph are short
record AreShort (text : GraphText) : Type 0 where
  edges : IsShort 12000 text.edges.items
  delivered : IsShort 14 text.delivered.items
  dropped : IsShort 14 text.dropped.items

graph_short : (n : ℕ) (graph : Graph) (text : GraphText) → 1 ≤ n → n ≤ 200 → IsWritten n graph text → AreShort text
graph_short n graph text some few is =
    let count : ℕ = 2 * n - 1 in
    let below : IsBelow count graph = is.known.below count (omega (arith, some)) (omega (arith, some)) in
    record {
      edges = edges_length count graph.edges text.edges.items (omega (arith, few)) below.edges is.known.small.edges is.writes.edges;
      delivered = numbers_length count graph.delivered text.delivered.items (omega (arith, few)) below.delivered is.known.small.delivered is.writes.delivered;
      dropped = numbers_length count graph.dropped text.dropped.items (omega (arith, few)) below.dropped is.known.small.dropped is.writes.dropped;
    }

flow_length : (k : ℕ) (nodes : List ℕ) (text : GraphText) → IsShort 4000 nodes → AreShort text → IsShort 20000 (flow_text k nodes text)
flow_length k nodes text few short =
    let whole = both_short (own_length (codes "{\"delivered\":")) (both_short short.delivered (both_short (own_length (codes ",\"dropped\":")) (both_short short.dropped (both_short (own_length (codes ",\"dst\":\"")) (both_short (own_length (destination_text k))
    (both_short (own_length (codes "\",\"edges\":")) (both_short short.edges (both_short (own_length (codes ",\"name\":\"")) (both_short (own_length (flow_name k)) (both_short (own_length (codes "\",\"nodes\":")) (both_short few (own_length (codes ",\"starts\":[0]}"))))))))))))) in
    shorter whole 20000 (omega arith)

entry_length : {m k : ℕ} {t rest : List ℕ} → IsShort m t → IsShort k rest → IsShort (m + (1 + k)) (t ++ 44 ∷ rest)
entry_length {m} {k} {t} {rest} first second = record { few = omega (arith, first.few, second.few, length-append t (44 ∷ rest)) }

pub snapshot_short : (n : ℕ) (nodes text : List ℕ) (first seventh eighth : GraphText) (s e : Graph) → 1 ≤ n → n ≤ 200 → nodes ≡ nodes_text (node_labels n) → IsWritten n (layered n) first → IsWritten n s seventh → IsWritten n e eighth
    → text ≡ snapshot_text nodes first seventh eighth → length text ≤ 33554432
snapshot_short n nodes text first seventh eighth s e some few nodes_are is_first is_seventh is_eighth is =
    let node : IsShort 4000 nodes = record { few = nodes_length n nodes some few nodes_are } in
    let one : (k : ℕ) → IsShort 20000 (flow_text k nodes first) = λ k. flow_length k nodes first node (graph_short n (layered n) first some few is_first) in
    let last = both_short (flow_length 8 nodes eighth node (graph_short n e eighth some few is_eighth)) (own_length (codes "]}")) in
    let flows = entry_length (one 1) (entry_length (one 2) (entry_length (one 3) (entry_length (one 4) (entry_length (one 5) (entry_length (one 6) (entry_length (flow_length 7 nodes seventh node (graph_short n s seventh some few is_seventh)) last)))))) in
    let whole : IsShort 200000 (snapshot_text nodes first seventh eighth) = shorter (both_short (own_length (codes "{\"version\":1,\"flows\":[")) flows) 200000 (omega arith) in
    omega (arith, whole.few, ap length is)

-- ---- the three graphs

pub layered_known : (n : ℕ) → n ≤ 200 → IsKnown n (layered n)
layered_known n few = record { below = λ count lt some. layered_below count n lt some; small = layered_small n few }

pub cut_known : (n : ℕ) → n ≤ 200 → IsKnown n (cut n)
cut_known n few = record { below = λ count lt some. cut_below count n lt some; small = cut_small n few }

pub lost_known : (n : ℕ) → n ≤ 200 → IsKnown n (lost n)
lost_known n few = record { below = λ count lt some. lost_below count n lt some; small = lost_small n few }
