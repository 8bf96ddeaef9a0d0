-- From the pieces that are written to the snapshot.
use Rattle.std.proofs.Common.{◌≡◌, ◌∙◌, refl, sym, ap, subst, ℕ, ◌+◌, ◌<◌, ◌≤◌, inl, inr, ⊎_elim, false, ltb, List, [], ◌∷◌, ◌++◌, length, map, get_or, take, append_assoc, arith, decimal}
use Rattle.std.specs.Prelude.{codes}
use Rattle.std.specs.List.{All}
use Rattle.std.proofs.lemmas.Bool.{cases_lt}
use Rattle.std.proofs.lemmas.Fmt.{decimal_digit}
use Rattle.std.proofs.lemmas.List.{append-nil, take_more, take_all, map-append, length-append, length-map, length-take, take-append-le, get_or_push, get_or-map}
use Rattle.std.proofs.lemmas.List.Elements.{All-nil, All-push, All-weaker, All-contains}
use Rattle.json.specs.Print.{escape_byte, quoted}
use Rattle.serde_json.specs.Data.{string}
use Rattle.serde_json.specs.Written.{comma_if, compact_text}
use Rattle.rela_flows.specs.Notation.{text_of}
use Rattle.rela_flows.specs.declared.prefix.Ipv4Prefix.{Ipv4Prefix}
use Rattle.rela_flows.specs.declared.prefix.Prefix.TheVariants.{V4}
use Rattle.rela_locations.specs.Network.{Network}
use Rattle.rela_prefixes.specs.Classes.{AreClasses}
use Rattle.rela_tables.specs.Forwarding.{Forwarding}
use Rattle.rela_fib.specs.Choices.{IsUniform}
use Rattle.rela_fib.specs.Graph.{AreNodes, ArePlacesOf, IsGraphAt}
use Rattle.rela_fib.specs.Prefixes.{prefixes_in_both}
use Rattle.rela_fib.specs.Snapshot.{HasManyEdges, IsDrawn, IsFew, IsGraphOf, IsSnapshotOf, IsTooLong, IsTooMany, classes_of}
use Rattle.rela_fib.specs.Steps.{AreDevices, graph_of}
use Rattle.rela_fib.specs.Text.{Flow, edge_data, flow_data, list_data, names_of, numbers_data, snapshot_bytes, snapshot_data}
use Rattle.rela_fib.specs.Writing.{AddsFlow, AddsFlows, AreFlowsOf, HasManySteps, HasManyStepsIn, IsAdded, IsSteppedFlow, IsUpTo, IsWhole, IsWholeTooLong, commas, end_text, flow_text, head_text, plain_text, tail_text, whole_text}
use Rattle.rela_fib.specs.declared.devices.Devices.{Devices}
use Rattle.rela_fib.proofs.Arrays.{commas_more, list_is}
use Rattle.rela_fib.proofs.Plain.{prefix_escape}
use Rattle.rela_fib.proofs.Steps.{graph_known, graph_uniform}
use Rattle.rela_fib.proofs.Laws.{AreLaws, holds_own}
use Rattle.rela_fib.proofs.Unique.{not_long, not_many}

-- ---- the text

quoted_prefix : (class : Ipv4Prefix) → plain_text (text_of (V4 class)) ≡ quoted (text_of (V4 class))
quoted_prefix class = ap (λ (s : List ℕ). 34 ∷ (s ++ 34 ∷ [])) (sym (prefix_escape class))

regroup : (a b p e q s t : List ℕ) (k2 k3 k4 k5 k6 k7 : List ℕ)
    → (a ++ (k2 ++ b)) ++ ((k3 ++ (p ++ (k4 ++ (e ++ (k5 ++ q))))) ++ (k6 ++ (s ++ (k7 ++ t)))) ≡ a ++ (k2 ++ (b ++ (k3 ++ (p ++ (k4 ++ (e ++ (k5 ++ (q ++ (k6 ++ (s ++ (k7 ++ t)))))))))))
regroup a b p e q s t k2 k3 k4 k5 k6 k7 = simp append_assoc

flow_pieces : (names : List (List ℕ)) (starts : List ℕ) (flow : Flow) → flow_text (end_text names starts) flow ≡ compact_text (flow_data names starts flow)
unfolding escape_byte
flow_pieces names starts flow =
    let p : List ℕ = plain_text (text_of (V4 flow.class)) in
    let delivered : List ℕ = compact_text (numbers_data flow.graph.delivered) in
    let dropped : List ℕ = compact_text (numbers_data flow.graph.dropped) in
    let edges : List ℕ = compact_text (list_data edge_data flow.graph.edges) in
    let nodes : List ℕ = compact_text (list_data string names) in
    let tail : List ℕ = compact_text (numbers_data starts) ++ 125 ∷ [] in
    let key : List ℕ → List ℕ → List ℕ = λ name s. 44 ∷ 34 ∷ (name ++ 34 ∷ 58 ∷ s) in
    let first : List ℕ → List ℕ = λ s. 123 ∷ 34 ∷ (codes "delivered" ++ 34 ∷ 58 ∷ s) in
    ap first (regroup delivered dropped p edges p nodes tail (key (codes "dropped") []) (key (codes "dst") []) (key (codes "edges") []) (key (codes "name") []) (key (codes "nodes") []) (key (codes "starts") []))
    ∙ ap (λ (q : List ℕ). first (delivered ++ key (codes "dropped") (dropped ++ key (codes "dst") (q ++ key (codes "edges") (edges ++ key (codes "name") (q ++ key (codes "nodes") (nodes ++ key (codes "starts") tail)))))))
    (quoted_prefix flow.class)

flows_pieces : (names : List (List ℕ)) (starts : List ℕ) (flows : List Flow) → map (flow_text (end_text names starts)) flows ≡ map (λ flow. compact_text (flow_data names starts flow)) flows
flows_pieces names starts [] = refl
flows_pieces names starts (flow ∷ flows) = ap (λ t. t ∷ map (flow_text (end_text names starts)) flows) (flow_pieces names starts flow) ∙ ap (λ ts. compact_text (flow_data names starts flow) ∷ ts) (flows_pieces names starts flows)

one_digit : decimal 1 ≡ 49 ∷ []
one_digit = decimal_digit 1 (omega arith)

pub whole_is : (names : List (List ℕ)) (starts : List ℕ) (flows : List Flow) → whole_text (end_text names starts) flows ≡ compact_text (snapshot_data names starts flows) ++ 10 ∷ []
unfolding escape_byte
whole_is names starts flows =
    let version : List ℕ → List ℕ = λ one. 44 ∷ 34 ∷ (codes "version" ++ 34 ∷ 58 ∷ (one ++ 125 ∷ [])) in
    let head : List ℕ → List ℕ = λ s. 123 ∷ 34 ∷ (codes "flows" ++ 34 ∷ 58 ∷ s) in
    let texts : List (List ℕ) = map (λ flow. compact_text (flow_data names starts flow)) flows in
    ap (λ ts. head_text ++ (commas false ts ++ tail_text)) (flows_pieces names starts flows)
    ∙ ap (λ (s : List ℕ). head (91 ∷ s)) (sym (append_assoc (commas false texts) (93 ∷ []) (version (49 ∷ []) ++ 10 ∷ [])))
    ∙ ap (λ (s : List ℕ). head (s ++ (version (49 ∷ []) ++ 10 ∷ []))) (sym (list_is (flow_data names starts) flows))
    ∙ ap (λ (s : List ℕ). head (compact_text (list_data (flow_data names starts) flows) ++ (version s ++ 10 ∷ []))) (sym one_digit)
    ∙ ap head (sym (append_assoc (compact_text (list_data (flow_data names starts) flows)) (version (decimal 1)) (10 ∷ [])))

-- ---- the flows of the classes so far

pub no_flows : (d : Devices) (end before text : List ℕ) (classes : List Ipv4Prefix) → classes ≡ [] → text ≡ before → AddsFlows d end classes before text
no_flows d end before text classes none same = record {
  flows = [];
  flows_are = record { classes_are = sym none; stepped = All-nil (IsSteppedFlow d) };
  added = inl (same ∙ sym (append-nil before));
}

up_to_more : (whole text more new : List ℕ) → IsUpTo whole text → IsAdded text more new → IsUpTo (whole ++ more) new
up_to_more whole text more new is added = ⊎_elim
    (λ long. let same = added.long long in ⊎_elim
    (λ exact. inr (subst (λ (t : List ℕ). 33554432 < length t) (sym same) long, omega (arith, ap length same, ap length exact, length-append whole more)))
    (λ past. inr (subst (λ (t : List ℕ). 33554432 < length t) (sym same) long, omega (arith, ap length same, past.1, length-append whole more))) is)
    (λ short. ⊎_elim
    (λ exact. inl (added.short short ∙ ap (λ (t : List ℕ). t ++ more) exact))
    (λ past. absurd (omega (arith, past.0, short))) is)
    (cases_lt 33554432 (length text))

pub flow_more : (d : Devices) (end : List ℕ) (classes : List Ipv4Prefix) (i : ℕ) (class : Ipv4Prefix) (before text new : List ℕ) → i < length classes → class ≡ get_or classes i class → AddsFlows d end (take i classes) before text → AddsFlow d end class (ltb 0 i) text new → AddsFlows d end (take (i + 1) classes) before new
flow_more d end classes i class before text new lt is adds one =
    let flows : List Flow = adds.flows ++ one.flow ∷ [] in
    let more : take (i + 1) classes ≡ take i classes ++ class ∷ [] = take_more classes i class lt ∙ ap (λ c. take i classes ++ c ∷ []) (sym is) in
    let taken : i ≡ length adds.flows = omega (arith, ap length adds.flows_are.classes_are, length-map adds.flows (λ (flow : Flow). flow.class), length-take i classes, lt) in
    record {
      flows = flows;
      flows_are = record {
        classes_are = map-append (λ (flow : Flow). flow.class) adds.flows (one.flow ∷ []) ∙ ap (λ cs. cs ++ one.flow.class ∷ []) adds.flows_are.classes_are ∙ ap (λ c. take i classes ++ c ∷ []) one.class_is ∙ sym more;
        stepped = All-push (IsSteppedFlow d) adds.flows one.flow adds.flows_are.stepped one.stepped;
      };
      added = subst (λ (whole : List ℕ). IsUpTo whole new)
          (append_assoc before (commas false (map (flow_text end) adds.flows)) (comma_if (ltb 0 i) ++ flow_text end one.flow) ∙ ap (λ (s : List ℕ). before ++ s) (sym (pushed adds.flows one.flow i taken)))
          (up_to_more (before ++ commas false (map (flow_text end) adds.flows)) text (comma_if (ltb 0 i) ++ flow_text end one.flow) new adds.added one.added);
    }
  where
    pushed : (flows : List Flow) (flow : Flow) (i : ℕ) → i ≡ length flows → commas false (map (flow_text end) (flows ++ flow ∷ [])) ≡ commas false (map (flow_text end) flows) ++ (comma_if (ltb 0 i) ++ flow_text end flow)
    pushed flows flow i is =
        let below : i < length (flows ++ flow ∷ []) = omega (arith, is, length-append flows (flow ∷ [])) in
        let all : take (i + 1) (flows ++ flow ∷ []) ≡ flows ++ flow ∷ [] = take_all (i + 1) (flows ++ flow ∷ []) (omega (arith, is, length-append flows (flow ∷ []))) in
        let old : take i (flows ++ flow ∷ []) ≡ flows = take-append-le i flows (flow ∷ []) (omega (arith, is)) ∙ take_all i flows (omega (arith, is)) in
        let last : get_or (flows ++ flow ∷ []) i flow ≡ flow = get_or_push flows flow flow i (sym is) in
        ap (λ (fs : List Flow). commas false (map (flow_text end) fs)) (sym all)
        ∙ commas_more (flow_text end) (flows ++ flow ∷ []) i flow below
        ∙ ap (λ (fs : List Flow). commas false (map (flow_text end) fs) ++ (comma_if (ltb 0 i) ++ flow_text end (get_or (flows ++ flow ∷ []) i flow))) old
        ∙ ap (λ (x : Flow). commas false (map (flow_text end) flows) ++ (comma_if (ltb 0 i) ++ flow_text end x)) last

pub many_in : (d : Devices) (classes : List Ipv4Prefix) (i : ℕ) (class : Ipv4Prefix) → i < length classes → class ≡ get_or classes i class → HasManySteps d class → HasManyStepsIn d classes
many_in d classes i class lt is many = record { class = class; listed = (i, lt, sym is); many = many }

-- ---- the whole text

pub wholly : (d : Devices) (end head text new : List ℕ) (classes : List Ipv4Prefix) → head ≡ head_text → AddsFlows d end classes head text → new ≡ text ++ tail_text → length new ≤ 33554432 → IsWhole d end classes new
wholly d end head text new classes begins adds ends short = ⊎_elim
    (λ exact. record {
      flows = adds.flows;
      flows_are = adds.flows_are;
      text_is = ends ∙ ap (λ (t : List ℕ). t ++ tail_text) (exact ∙ ap (λ (t : List ℕ). t ++ commas false (map (flow_text end) adds.flows)) begins) ∙ append_assoc head_text (commas false (map (flow_text end) adds.flows)) tail_text;
      short = short;
    })
    (λ past. absurd (omega (arith, past.0, short, ap length ends, length-append text tail_text)))
    adds.added

pub wholly_long : (d : Devices) (end head text new : List ℕ) (classes : List Ipv4Prefix) → head ≡ head_text → AddsFlows d end classes head text → new ≡ text ++ tail_text → 33554432 < length new → IsWholeTooLong d end classes
wholly_long d end head text new classes begins adds ends long =
    let flows : List ℕ = commas false (map (flow_text end) adds.flows) in
    let count : length (whole_text end adds.flows) ≡ length (head ++ flows) + length tail_text = omega (arith, ap length begins, length-append head_text (flows ++ tail_text), length-append flows tail_text, length-append head flows) in
    let no_shorter : length text ≤ length (head ++ flows) = ⊎_elim (λ exact. omega (arith, ap length exact)) (λ past. past.1) adds.added in
    record { flows = adds.flows; flows_are = adds.flows_are; long = omega (arith, count, no_shorter, long, ap length ends, length-append text tail_text) }

-- ---- the snapshot

stepped_graph : (network : Network) (f : Forwarding) (nodes : List ℕ) (d : Devices) (flow : Flow) → AreDevices network f nodes d → IsUniform f flow.class → IsSteppedFlow d flow → IsGraphOf network f nodes flow.class flow.graph
stepped_graph network f nodes d flow are uniform is a holds =
    graph_uniform network f nodes flow.class flow.class.address a flow.graph uniform (holds_own flow.class) holds (subst (λ g. IsGraphAt network f nodes flow.class.address g) (sym is.graph_is) (graph_known network f nodes d flow.class.address is.steps are is.steps_are))

all_graphs : (network : Network) (f : Forwarding) (nodes : List ℕ) (d : Devices) (flows : List Flow) → AreDevices network f nodes d → All (IsUniform f) (classes_of flows) → All (IsSteppedFlow d) flows → All (λ (flow : Flow). IsGraphOf network f nodes flow.class flow.graph) flows
all_graphs network f nodes d flows are uniform stepped = λ k flow lt.
    stepped_graph network f nodes d (get_or flows k flow) are (subst (IsUniform f) (get_or-map (λ (flow : Flow). flow.class) flows k flow flow.class lt) (uniform k flow.class (omega (arith, lt, length-map flows (λ (flow : Flow). flow.class))))) (stepped k flow lt)

-- what is known before the text is written
pub record IsPlanned (network : Network) (f other : Forwarding) (nodes starts : List ℕ) (classes : List Ipv4Prefix) (d : Devices) (end : List ℕ) : Type 0 where
  pub nodes_are : AreNodes f nodes
  pub few_nodes : length nodes ≤ 10000
  pub starts_are : ArePlacesOf nodes f.starts starts
  pub classes_are : AreClasses (prefixes_in_both f other) classes
  pub uniform : All (IsUniform f) classes
  pub few_classes : length classes ≤ 10000
  pub devices_are : AreDevices network f nodes d
  pub end_is : end ≡ end_text (names_of network nodes) starts

drawn_by : (network : Network) (f other : Forwarding) (nodes starts : List ℕ) (classes : List Ipv4Prefix) (d : Devices) (end : List ℕ) (flows : List Flow) → IsPlanned network f other nodes starts classes d end → AreFlowsOf d classes flows → (IsDrawn network f other (record { nodes = nodes; starts = starts; flows = flows })) × IsFew (record { nodes = nodes; starts = starts; flows = flows })
drawn_by network f other nodes starts classes d end flows plan are = (
  record {
    nodes = plan.nodes_are;
    starts = plan.starts_are;
    classes = subst (AreClasses (prefixes_in_both f other)) (sym are.classes_are) plan.classes_are;
    graphs = all_graphs network f nodes d flows plan.devices_are (subst (All (IsUniform f)) (sym are.classes_are) plan.uniform) are.stepped;
  },
  record {
    nodes = plan.few_nodes;
    flows = omega (arith, plan.few_classes, ap length are.classes_are, length-map flows (λ (flow : Flow). flow.class));
    edges = All-weaker (IsSteppedFlow d) (λ (flow : Flow). length flow.graph.edges ≤ 100000) (λ flow is. is.few) flows are.stepped;
  },
)

bytes_are : (network : Network) (nodes starts end : List ℕ) (flows : List Flow) → end ≡ end_text (names_of network nodes) starts → whole_text end flows ≡ snapshot_bytes network (record { nodes = nodes; starts = starts; flows = flows })
bytes_are network nodes starts end flows is = ap (λ (e : List ℕ). whole_text e flows) is ∙ whole_is (names_of network nodes) starts flows

pub written : (network : Network) (f other : Forwarding) (nodes starts : List ℕ) (classes : List Ipv4Prefix) (d : Devices) (end text : List ℕ) → IsPlanned network f other nodes starts classes d end → IsWhole d end classes text → IsSnapshotOf network f other text
written network f other nodes starts classes d end text plan is =
    let draws = drawn_by network f other nodes starts classes d end is.flows plan is.flows_are in
    record {
      drawn = record { nodes = nodes; starts = starts; flows = is.flows };
      drawn_from = draws.0;
      few = draws.1;
      bytes = is.text_is ∙ bytes_are network nodes starts end is.flows plan.end_is;
      short = is.short;
    }

pub too_long : (network : Network) (f other : Forwarding) (nodes starts : List ℕ) (classes : List Ipv4Prefix) (d : Devices) (end : List ℕ) → IsPlanned network f other nodes starts classes d end → IsWholeTooLong d end classes → IsTooLong network f other
too_long network f other nodes starts classes d end plan is =
    let draws = drawn_by network f other nodes starts classes d end is.flows plan is.flows_are in
    record {
      drawn = record { nodes = nodes; starts = starts; flows = is.flows };
      drawn_from = draws.0;
      few = draws.1;
      long = subst (λ (t : List ℕ). 33554432 < length t) (bytes_are network nodes starts end is.flows plan.end_is) is.long;
    }

pub many_edges : (network : Network) (f other : Forwarding) (nodes starts : List ℕ) (classes : List Ipv4Prefix) (d : Devices) (end : List ℕ) → IsPlanned network f other nodes starts classes d end → HasManyStepsIn d classes → HasManyEdges network f other
many_edges network f other nodes starts classes d end plan is = record {
  nodes = nodes;
  nodes_are = plan.nodes_are;
  classes = classes;
  classes_are = plan.classes_are;
  class = is.class;
  listed = is.listed;
  graph = graph_of is.many.steps;
  graph_is = λ a holds. graph_uniform network f nodes is.class is.class.address a (graph_of is.many.steps) (All-contains (IsUniform f) classes is.class plan.uniform is.listed) (holds_own is.class) holds
      (graph_known network f nodes d is.class.address is.many.steps plan.devices_are is.many.steps_are);
  many = is.many.many;
}

pub not_many_by : AreLaws → (network : Network) (f other : Forwarding) (nodes starts : List ℕ) (classes : List Ipv4Prefix) (d : Devices) (end : List ℕ) (flows : List Flow) → IsPlanned network f other nodes starts classes d end → AreFlowsOf d classes flows → ¬ IsTooMany network f other
not_many_by laws network f other nodes starts classes d end flows plan are =
    let draws = drawn_by network f other nodes starts classes d end flows plan are in not_many laws network f other (record { nodes = nodes; starts = starts; flows = flows }) plan.devices_are.tables draws.0 draws.1

pub not_long_by : AreLaws → (network : Network) (f other : Forwarding) (nodes starts : List ℕ) (classes : List Ipv4Prefix) (d : Devices) (end text : List ℕ) → IsPlanned network f other nodes starts classes d end → IsWhole d end classes text → ¬ IsTooLong network f other
not_long_by laws network f other nodes starts classes d end text plan is =
    let draws = drawn_by network f other nodes starts classes d end is.flows plan is.flows_are in
    not_long laws network f other (record { nodes = nodes; starts = starts; flows = is.flows }) plan.devices_are.tables draws.0
    (subst (λ (t : List ℕ). length t ≤ 33554432) (is.text_is ∙ bytes_are network nodes starts end is.flows plan.end_is) is.short)

pub planned : (network : Network) (f other : Forwarding) (nodes nodes1 nodes2 nodes3 starts starts' given : List ℕ) (classes classes' : List Ipv4Prefix) (d : Devices) (end end' : List ℕ) → nodes1 ≡ nodes → nodes2 ≡ nodes → nodes3 ≡ nodes → given ≡ f.starts → starts' ≡ starts → classes' ≡ classes → end' ≡ end
    → AreNodes f nodes → length nodes ≤ 10000 → ArePlacesOf nodes1 given starts → AreClasses (prefixes_in_both f other) classes → All (IsUniform f) classes → length classes ≤ 10000 → AreDevices network f nodes2 d → end ≡ end_text (names_of network nodes3) starts' → IsPlanned network f other nodes starts classes' d end'
planned network f other nodes nodes1 nodes2 nodes3 starts starts' given classes classes' d end end' n1 n2 n3 same_starts s c e are few places are_classes uniform few_classes devices ends = record {
  nodes_are = are;
  few_nodes = few;
  starts_are = subst (λ (ns : List ℕ). ArePlacesOf ns f.starts starts) n1 (subst (λ (xs : List ℕ). ArePlacesOf nodes1 xs starts) same_starts places);
  classes_are = subst (AreClasses (prefixes_in_both f other)) (sym c) are_classes;
  uniform = subst (All (IsUniform f)) (sym c) uniform;
  few_classes = omega (arith, few_classes, ap length c);
  devices_are = subst (λ (ns : List ℕ). AreDevices network f ns d) n2 devices;
  end_is = e ∙ ends ∙ ap (λ (ns : List ℕ). end_text (names_of network ns) starts') n3 ∙ ap (λ (xs : List ℕ). end_text (names_of network nodes) xs) s;
}
