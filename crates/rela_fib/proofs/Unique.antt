-- Two files give one snapshot: there is one list of nodes, one of classes, and one graph for each address.
use Rattle.std.proofs.Common.{◌≡◌, ◌∙◌, refl, sym, ap, subst, ℕ, zero, suc, ◌+◌, ◌<◌, ◌≤◌, ◌⊎◌, inl, inr, ⊎_elim, Bool, true, false, cond, ◌==◌, List, [], ◌∷◌, length, get_or, Option, Some, None, arith}
use Rattle.std.specs.Prelude.{find}
use Rattle.std.specs.Option.{option_map_or}
use Rattle.std.specs.List.{All, AllByRecursion, AllZip, Contains, IsDistinct}
use Rattle.std.specs.List.Sorted.{IsStrictlyIncreasing}
use Rattle.std.proofs.lemmas.Bool.{eq-eqb, and_from}
use Rattle.std.proofs.lemmas.List.{get_or_default, length-map}
use Rattle.std.proofs.lemmas.List.Elements.{All-contains, All-head, All-tail}
use Rattle.std.proofs.lemmas.Map.Keys.{sorted_from_strictly_increasing, below_from_sorted}
use Rattle.rela_flows.specs.Address.Address.{Ipv4}
use Rattle.rela_flows.specs.declared.prefix.Ipv4Prefix.{Ipv4Prefix}
use Rattle.rela_names.specs.declared.level.Level.TheVariants as level
use Rattle.rela_locations.specs.Network.{Network, location_of}
use Rattle.rela_prefixes.specs.Holding.{Holds}
use Rattle.rela_tables.specs.Chosen.{Chosen, ChosenOf}
use Rattle.rela_tables.specs.Distinct.{AreTables, IsTable, is_same_key, key_of, keys_of}
use Rattle.rela_tables.specs.Forwarding.{Forwarding, routes_of}
use Rattle.rela_tables.specs.declared.route.Route.{Route}
use Rattle.rela_tables.specs.declared.table.Table.{Table}
use Rattle.rela_fib.specs.Graph.{AreNodes, ArePlacesOf, Graph, IsGraphAt, chosen_hops, edges_from, is_delivered, is_dropped, numbers_from}
use Rattle.rela_fib.specs.Prefixes.{prefixes_in_both}
use Rattle.rela_fib.specs.Snapshot.{HasManyEdges, IsDrawn, IsFew, IsGraphOf, IsTooLong, IsTooMany, classes_of}
use Rattle.rela_fib.specs.Text.{Drawn, Flow, snapshot_bytes}
use Rattle.rela_fib.proofs.Found.{no_member}
use Rattle.rela_fib.proofs.Laws.{AreLaws, holds_own}

-- ---- ascending numbers

contains_cases : {X : Type 0} (y : X) (ys : List X) (x : X) → Contains (y ∷ ys) x → (y ≡ x) ⊎ Contains ys x
contains_cases y ys x (zero, lt, is) = inl is
contains_cases y ys x (suc k, lt, is) = inr (k, omega (arith, lt), is)

contains_first : {X : Type 0} (x : X) (xs : List X) → Contains (x ∷ xs) x
contains_first x xs = (0, omega arith, refl)

contains_later : {X : Type 0} (y : X) (xs : List X) (x : X) → Contains xs x → Contains (y ∷ xs) x
contains_later y xs x (k, lt, is) = (suc k, omega (arith, lt), is)

first_below : (x : ℕ) (xs : List ℕ) (s : ℕ) → IsStrictlyIncreasing (x ∷ xs) → Contains xs s → x < s
first_below x xs s rising (k, lt, is) =
    let below : x < get_or xs k 0 = below_from_sorted (x ∷ xs) 0 (suc k) 0 (sorted_from_strictly_increasing (x ∷ xs) rising) (omega arith) (omega (arith, lt)) in
    omega (arith, below, get_or_default xs k 0 s lt, is)

rest_rises : (x : ℕ) (xs : List ℕ) → IsStrictlyIncreasing (x ∷ xs) → IsStrictlyIncreasing xs
rest_rises x xs rising k lt = let e : suc k + 1 ≡ suc (k + 1) = omega arith in subst (λ n. get_or (x ∷ xs) (suc k) 0 < get_or (x ∷ xs) n 0) e (rising (suc k) (omega (arith, lt)))

pub increasing_unique : (xs ys : List ℕ) → IsStrictlyIncreasing xs → IsStrictlyIncreasing ys → ((s : ℕ) → Contains xs s → Contains ys s) → ((s : ℕ) → Contains ys s → Contains xs s) → xs ≡ ys
increasing_unique [] [] rx ry f g = refl
increasing_unique [] (y ∷ ys) rx ry f g = absurd (no_member y (g y (contains_first y ys)))
increasing_unique (x ∷ xs) [] rx ry f g = absurd (no_member x (f x (contains_first x xs)))
increasing_unique (x ∷ xs) (y ∷ ys) rx ry f g =
    let same : x ≡ y = ⊎_elim (λ is. sym is)
    (λ in_ys. ⊎_elim (λ is. is) (λ in_xs. absurd (omega (arith, first_below y ys x ry in_ys, first_below x xs y rx in_xs))) (contains_cases x xs y (g y (contains_first y ys))))
    (contains_cases y ys x (f x (contains_first x xs))) in
    let rest : xs ≡ ys = increasing_unique xs ys (rest_rises x xs rx) (rest_rises y ys ry)
    (λ s in_xs. ⊎_elim (λ is. absurd (omega (arith, first_below x xs s rx in_xs, is, same))) (λ in_ys. in_ys) (contains_cases y ys s (f s (contains_later x xs s in_xs))))
    (λ s in_ys. ⊎_elim (λ is. absurd (omega (arith, first_below y ys s ry in_ys, is, same))) (λ in_xs. in_xs) (contains_cases x xs s (g s (contains_later y ys s in_ys)))) in
    ap (λ z. z ∷ xs) same ∙ ap (λ (zs : List ℕ). y ∷ zs) rest

pub nodes_unique : (f : Forwarding) (xs ys : List ℕ) → AreNodes f xs → AreNodes f ys → xs ≡ ys
nodes_unique f xs ys are_x are_y = increasing_unique xs ys are_x.ascending are_y.ascending (λ s h. (are_y.each s).1 ((are_x.each s).0 h)) (λ s h. (are_x.each s).1 ((are_y.each s).0 h))

pub places_unique : (nodes interfaces ps qs : List ℕ) → ArePlacesOf nodes interfaces ps → ArePlacesOf nodes interfaces qs → ps ≡ qs
places_unique nodes interfaces ps qs are_p are_q = increasing_unique ps qs are_p.ascending are_q.ascending
    (λ s h. are_q.every s (All-contains (λ (k : ℕ). k < length nodes) ps s are_p.below h) (All-contains (λ (k : ℕ). Contains interfaces (get_or nodes k 0)) ps s are_p.each h))
    (λ s h. are_p.every s (All-contains (λ (k : ℕ). k < length nodes) qs s are_q.below h) (All-contains (λ (k : ℕ). Contains interfaces (get_or nodes k 0)) qs s are_q.each h))

-- ---- the chosen route

other_key : (key : ℕ × ℕ) (rest : List Route) (r : Route) → AllByRecursion (λ k. is_same_key key k ≡ false) (keys_of rest) → Contains rest r → is_same_key key (key_of r.prefix) ≡ false
other_key key [] r h at = absurd (no_member r at)
other_key key (x ∷ rest) r h at = ⊎_elim (λ is. subst (λ (y : Route). is_same_key key (key_of y.prefix) ≡ false) is h.0) (λ later. other_key key rest r h.1 later) (contains_cases x rest r at)

same_key : (r s : Route) → r.prefix ≡ s.prefix → is_same_key (key_of r.prefix) (key_of s.prefix) ≡ true
same_key r s same = and_from (r.prefix.address == s.prefix.address) (r.prefix.length == s.prefix.length) (eq-eqb r.prefix.address s.prefix.address (ap (λ (p : Ipv4Prefix). p.address) same)) (eq-eqb r.prefix.length s.prefix.length (ap (λ (p : Ipv4Prefix). p.length) same))

route_unique : (routes : List Route) (r s : Route) → IsDistinct is_same_key (keys_of routes) → Contains routes r → Contains routes s → r.prefix ≡ s.prefix → r ≡ s
unfolding IsDistinct
route_unique [] r s distinct at_r at_s same = absurd (no_member r at_r)
route_unique (x ∷ routes) r s distinct at_r at_s same = ⊎_elim
    (λ r_first. ⊎_elim (λ s_first. sym r_first ∙ s_first)
    (λ s_later. let apart : is_same_key (key_of x.prefix) (key_of s.prefix) ≡ false = other_key (key_of x.prefix) routes s distinct.0 s_later in
    let equal : is_same_key (key_of x.prefix) (key_of s.prefix) ≡ true = same_key x s (ap (λ (y : Route). y.prefix) r_first ∙ same) in absurd (cc))
    (contains_cases x routes s at_s))
    (λ r_later. ⊎_elim
    (λ s_first. let apart : is_same_key (key_of x.prefix) (key_of r.prefix) ≡ false = other_key (key_of x.prefix) routes r distinct.0 r_later in
    let equal : is_same_key (key_of x.prefix) (key_of r.prefix) ≡ true = same_key x r (ap (λ (y : Route). y.prefix) s_first ∙ sym same) in absurd (cc))
    (λ s_later. route_unique routes r s distinct.1 r_later s_later same)
    (contains_cases x routes s at_s))
    (contains_cases x routes r at_r)

abbrev found_routes : Option Table → List Route
found_routes o = option_map_or (λ table. table.routes) o []

routes_distinct : (device : ℕ) (tables : List Table) → All IsTable tables → IsDistinct is_same_key (keys_of (found_routes (find (λ (t : Table). device == t.device) tables)))
unfolding IsDistinct
routes_distinct device [] each = tt
routes_distinct device (t ∷ ts) each = by (device == t.device) (All-head IsTable t ts each).distinct (routes_distinct device ts (All-tail IsTable t ts each))
  where
    by : (b : Bool) → IsDistinct is_same_key (keys_of t.routes) → IsDistinct is_same_key (keys_of (found_routes (find (λ (t : Table). device == t.device) ts)))
        → IsDistinct is_same_key (keys_of (found_routes (cond b (Some t) (find (λ (t : Table). device == t.device) ts))))
    by true own others = own
    by false own others = others

-- ---- the graph

abbrev ChosenAt : Network → Forwarding → ℕ → ℕ → Option Route → Type 0
ChosenAt network f a node choice = Chosen f (location_of level.Device network node) a choice

next_unique : (nodes : List ℕ) (cs : List (Option Route)) (ps qs : List (List ℕ)) → AllZip (λ choice places. ArePlacesOf nodes (chosen_hops choice) places) cs ps → AllZip (λ choice places. ArePlacesOf nodes (chosen_hops choice) places) cs qs → ps ≡ qs
next_unique nodes [] [] [] h k = refl
next_unique nodes [] [] (q ∷ qs) h k = absurd k
next_unique nodes [] (p ∷ ps) qs h k = absurd h
next_unique nodes (c ∷ cs) [] qs h k = absurd h
next_unique nodes (c ∷ cs) (p ∷ ps) [] h k = absurd k
next_unique nodes (c ∷ cs) (p ∷ ps) (q ∷ qs) h k = ap (λ (x : List ℕ). x ∷ ps) (places_unique nodes (chosen_hops c) p q h.0 k.0) ∙ ap (λ (xs : List (List ℕ)). q ∷ xs) (next_unique nodes cs ps qs h.1 k.1)

abbrev graph_by : List (Option Route) → List (List ℕ) → Graph
graph_by choices next = record { edges = edges_from 0 next; delivered = numbers_from is_delivered 0 choices; dropped = numbers_from is_dropped 0 choices }

made : List (ℕ × ℕ) → List ℕ → List ℕ → Graph
made edges delivered dropped = record { edges = edges; delivered = delivered; dropped = dropped }

graph_is : (network : Network) (f : Forwarding) (nodes : List ℕ) (a : ℕ) (g : Graph) (is : IsGraphAt network f nodes a g) → g ≡ graph_by is.choices is.next
unfolding made
graph_is network f nodes a g is =
    ap (λ es. made es g.delivered g.dropped) is.edges ∙ ap (λ ns. made (edges_from 0 is.next) ns g.dropped) is.delivered ∙ ap (λ ns. made (edges_from 0 is.next) (numbers_from is_delivered 0 is.choices) ns) is.dropped

-- ---- the snapshot

flow_by : Ipv4Prefix → Graph → Flow
flow_by class graph = record { class = class; graph = graph }

abbrev HasGraph : Network → Forwarding → List ℕ → Flow → Type 0
HasGraph network f nodes flow = IsGraphOf network f nodes flow.class flow.graph

first_class : Ipv4Prefix → List Ipv4Prefix → Ipv4Prefix
first_class d [] = d
first_class d (c ∷ cs) = c

other_classes : List Ipv4Prefix → List Ipv4Prefix
other_classes [] = []
other_classes (c ∷ cs) = cs

drawn_of : List ℕ → List ℕ → List Flow → Drawn
drawn_of nodes starts flows = record { nodes = nodes; starts = starts; flows = flows }

listed_flow : (flows : List Flow) (class : Ipv4Prefix) → Contains (classes_of flows) class → (flow : Flow) × Contains flows flow × (flow.class ≡ class)
listed_flow [] class at = absurd (no_member class at)
listed_flow (x ∷ flows) class at = ⊎_elim
    (λ first. (x, contains_first x flows, first))
    (λ later. let rest = listed_flow flows class later in (rest.0, contains_later x flows rest.0 rest.1, rest.2))
    (contains_cases x.class (classes_of flows) class at)

-- ---- by the laws

module _ (laws : AreLaws) where
  chosen_unique : (routes : List Route) (a : ℕ) (c d : Option Route) → IsDistinct is_same_key (keys_of routes) → ChosenOf routes a c → ChosenOf routes a d → c ≡ d
  unfolding ChosenOf
  chosen_unique routes a None None distinct h k = refl
  chosen_unique routes a None (Some s) distinct h k = absurd (All-contains (λ (route : Route). ¬ Holds route.prefix a) routes s h k.listed k.holds)
  chosen_unique routes a (Some r) None distinct h k = absurd (All-contains (λ (route : Route). ¬ Holds route.prefix a) routes r k h.listed h.holds)
  chosen_unique routes a (Some r) (Some s) distinct h k =
      let s_short : s.prefix.length ≤ r.prefix.length = All-contains (λ (other : Route). Holds other.prefix a → other.prefix.length ≤ r.prefix.length) routes s h.longest k.listed k.holds in
      let r_short : r.prefix.length ≤ s.prefix.length = All-contains (λ (other : Route). Holds other.prefix a → other.prefix.length ≤ s.prefix.length) routes r k.longest h.listed h.holds in
      ap Some (route_unique routes r s distinct h.listed k.listed (laws.apart r.prefix s.prefix (omega (arith, s_short, r_short)) (Ipv4 a, h.holds, k.holds)))

  choices_unique : (network : Network) (f : Forwarding) (a : ℕ) (nodes : List ℕ) (cs ds : List (Option Route)) → AreTables f.tables → AllZip (ChosenAt network f a) nodes cs → AllZip (ChosenAt network f a) nodes ds → cs ≡ ds
  choices_unique network f a [] [] [] are h k = refl
  choices_unique network f a [] [] (d ∷ ds) are h k = absurd k
  choices_unique network f a [] (c ∷ cs) ds are h k = absurd h
  choices_unique network f a (n ∷ nodes) [] ds are h k = absurd h
  choices_unique network f a (n ∷ nodes) (c ∷ cs) [] are h k = absurd k
  choices_unique network f a (n ∷ nodes) (c ∷ cs) (d ∷ ds) are h k =
      let device : ℕ = location_of level.Device network n in
      ap (λ (x : Option Route). x ∷ cs) (chosen_unique (routes_of f device) a c d (routes_distinct device f.tables are.each) h.0 k.0) ∙ ap (λ (xs : List (Option Route)). d ∷ xs) (choices_unique network f a nodes cs ds are h.1 k.1)

  pub graph_unique : (network : Network) (f : Forwarding) (nodes : List ℕ) (a : ℕ) (g h : Graph) → AreTables f.tables → IsGraphAt network f nodes a g → IsGraphAt network f nodes a h → g ≡ h
  graph_unique network f nodes a g h are is_g is_h =
      let choices : is_g.choices ≡ is_h.choices = choices_unique network f a nodes is_g.choices is_h.choices are is_g.chosen is_h.chosen in
      let next : is_g.next ≡ is_h.next = next_unique nodes is_h.choices is_g.next is_h.next (subst (λ (cs : List (Option Route)). AllZip (λ choice places. ArePlacesOf nodes (chosen_hops choice) places) cs is_g.next) choices is_g.next_are) is_h.next_are in
      graph_is network f nodes a g is_g ∙ ap (λ cs. graph_by cs is_g.next) choices ∙ ap (λ ns. graph_by is_h.choices ns) next ∙ sym (graph_is network f nodes a h is_h)

  flow_unique : (network : Network) (f : Forwarding) (nodes : List ℕ) (x y : Flow) → AreTables f.tables → x.class ≡ y.class → IsGraphOf network f nodes x.class x.graph → IsGraphOf network f nodes y.class y.graph → x ≡ y
  unfolding flow_by
  flow_unique network f nodes x y are same is_x is_y =
      let holds : Holds x.class y.class.address = subst (λ (c : Ipv4Prefix). Holds c y.class.address) (sym same) (holds_own y.class) in
      ap (λ c. flow_by c x.graph) same ∙ ap (λ g. flow_by y.class g) (graph_unique network f nodes y.class.address x.graph y.graph are (is_x y.class.address holds) (is_y y.class.address (holds_own y.class)))

  flows_unique : (network : Network) (f : Forwarding) (nodes : List ℕ) (xs ys : List Flow) → AreTables f.tables → classes_of xs ≡ classes_of ys → All (HasGraph network f nodes) xs → All (HasGraph network f nodes) ys → xs ≡ ys
  unfolding first_class other_classes
  flows_unique network f nodes [] [] are same each_x each_y = refl
  flows_unique network f nodes [] (y ∷ ys) are same each_x each_y = absurd (let e : 0 ≡ suc (length (classes_of ys)) = ap length same in omega (arith, e))
  flows_unique network f nodes (x ∷ xs) [] are same each_x each_y = absurd (let e : suc (length (classes_of xs)) ≡ 0 = ap length same in omega (arith, e))
  flows_unique network f nodes (x ∷ xs) (y ∷ ys) are same each_x each_y =
      let Has : Flow → Type 0 = HasGraph network f nodes in
      ap (λ (z : Flow). z ∷ xs) (flow_unique network f nodes x y are (ap (first_class x.class) same) (All-head Has x xs each_x) (All-head Has y ys each_y))
      ∙ ap (λ (zs : List Flow). y ∷ zs) (flows_unique network f nodes xs ys are (ap other_classes same) (All-tail Has x xs each_x) (All-tail Has y ys each_y))

  pub drawn_unique : (network : Network) (f other : Forwarding) (d e : Drawn) → AreTables f.tables → IsDrawn network f other d → IsDrawn network f other e → d ≡ e
  unfolding drawn_of
  drawn_unique network f other d e are is_d is_e =
      let nodes : d.nodes ≡ e.nodes = nodes_unique f d.nodes e.nodes is_d.nodes is_e.nodes in
      let starts : d.starts ≡ e.starts = places_unique e.nodes f.starts d.starts e.starts (subst (λ (ns : List ℕ). ArePlacesOf ns f.starts d.starts) nodes is_d.starts) is_e.starts in
      let classes : classes_of d.flows ≡ classes_of e.flows = laws.one_list (prefixes_in_both f other) (classes_of d.flows) (classes_of e.flows) is_d.classes is_e.classes in
      let flows : d.flows ≡ e.flows = flows_unique network f e.nodes d.flows e.flows are classes (subst (λ (ns : List ℕ). All (HasGraph network f ns) d.flows) nodes is_d.graphs) is_e.graphs in
      ap (λ ns. drawn_of ns d.starts d.flows) nodes ∙ ap (λ ss. drawn_of e.nodes ss d.flows) starts ∙ ap (λ fs. drawn_of e.nodes e.starts fs) flows

  not_many_edges : (network : Network) (f other : Forwarding) (d : Drawn) → AreTables f.tables → IsDrawn network f other d → IsFew d → ¬ HasManyEdges network f other
  not_many_edges network f other d are is few many =
      let nodes : many.nodes ≡ d.nodes = nodes_unique f many.nodes d.nodes many.nodes_are is.nodes in
      let classes : many.classes ≡ classes_of d.flows = laws.one_list (prefixes_in_both f other) many.classes (classes_of d.flows) many.classes_are is.classes in
      let found = listed_flow d.flows many.class (subst (λ (cs : List Ipv4Prefix). Contains cs many.class) classes many.listed) in
      let theirs : HasGraph network f d.nodes found.0 = All-contains (HasGraph network f d.nodes) d.flows found.0 is.graphs found.1 in
      let a : ℕ = many.class.address in
      let at : IsGraphAt network f d.nodes a found.0.graph = theirs a (subst (λ (c : Ipv4Prefix). Holds c a) (sym found.2) (holds_own many.class)) in
      let same : many.graph ≡ found.0.graph = graph_unique network f d.nodes a many.graph found.0.graph are (subst (λ (ns : List ℕ). IsGraphAt network f ns a many.graph) nodes (many.graph_is a (holds_own many.class))) at in
      let short : length found.0.graph.edges ≤ 100000 = All-contains (λ (flow : Flow). length flow.graph.edges ≤ 100000) d.flows found.0 few.edges found.1 in
      omega (arith, short, many.many, ap (λ (g : Graph). length g.edges) same)

  pub not_many : (network : Network) (f other : Forwarding) (d : Drawn) → AreTables f.tables → IsDrawn network f other d → IsFew d → ¬ IsTooMany network f other
  not_many network f other d are is few many = ⊎_elim
      (λ nodes. omega (arith, nodes.2, few.nodes, ap length (nodes_unique f nodes.0 d.nodes nodes.1 is.nodes)))
      (λ rest. ⊎_elim
      (λ classes. omega (arith, classes.2, few.flows, ap length (laws.one_list (prefixes_in_both f other) classes.0 (classes_of d.flows) classes.1 is.classes), length-map d.flows (λ (flow : Flow). flow.class)))
      (λ edges. not_many_edges network f other d are is few edges)
      rest)
      many

  pub not_long : (network : Network) (f other : Forwarding) (d : Drawn) → AreTables f.tables → IsDrawn network f other d → length (snapshot_bytes network d) ≤ 33554432 → ¬ IsTooLong network f other
  not_long network f other d are is short long = omega (arith, short, long.long, ap (λ (e : Drawn). length (snapshot_bytes network e)) (drawn_unique network f other d long.drawn are is long.drawn_from))
