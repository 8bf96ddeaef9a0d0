-- From what devices do by their routes to the graph for an address.
use Rattle.std.proofs.Common.{◌≡◌, ◌∙◌, refl, sym, ap, subst, ℕ, zero, suc, ◌+◌, ◌-◌, ◌<◌, ◌≤◌, Bool, true, false, not, cond, ne_eqb, lt-ltb, le-ltb, eqb-true, List, [], ◌∷◌, ◌++◌, length, map, get_or, set, take, drop, replicate, Option, Some, None, append_assoc, arith}
use Rattle.std.specs.Prelude.{slice_get, is_none, unwrap_or, nat_eq, nat_lt, ◌==◌}
use Rattle.std.specs.Bool.{Decides}
use Rattle.std.specs.List.{All, AllZip, Contains, list_any}
use Rattle.std.specs.Option.{option_eq}
use Rattle.std.proofs.lemmas.Bool.Decides.{Decides-eqb}
use Rattle.std.proofs.lemmas.Option.{slice_get_within, slice_get_read, same_Some}
use Rattle.std.proofs.lemmas.List.{append-nil, get_or_default, length-append, length-map, map-append, set-get_or, take-append-drop, take_all, take_more}
use Rattle.std.proofs.lemmas.List.Elements.{All-nil, All-cons}
use Rattle.rela_flows.specs.declared.prefix.Ipv4Prefix.{Ipv4Prefix}
use Rattle.rela_names.specs.declared.level.Level.TheVariants as level
use Rattle.rela_locations.specs.Network.{Network, location_of}
use Rattle.rela_prefixes.specs.Holding.{Holds}
use Rattle.rela_prefixes.specs.Longest.{Longest, LongestWanted}
use Rattle.rela_tables.specs.Chosen.{Chosen, ChosenOf}
use Rattle.rela_tables.specs.Forwarding.{Forwarding, routes_of}
use Rattle.rela_tables.specs.declared.route.Route.{Route}
use Rattle.rela_fib.specs.Choices.{IsUniform}
use Rattle.rela_fib.specs.Graph.{ArePlacesOf, Graph, IsGraphAt, chosen_hops, edges_from, edges_to, is_delivered, is_dropped, is_listed_empty, number_if, numbers_from}
use Rattle.rela_fib.specs.Prefixes.{prefixes_of}
use Rattle.rela_fib.specs.Steps.{AreChoices, AreDevices, ArePlaced, AreStepsAt, AreStepsWith, IsDevice, IsMatched, IsStep, IsStepAt, IsStepBy, IsStepOf, IsStepWith, AreWithin, IsWithin, graph_of}
use Rattle.rela_fib.specs.declared.device.Device.{Device}
use Rattle.rela_fib.specs.declared.devices.Devices.{Devices}
use Rattle.rela_fib.specs.declared.step.Step.{Step}
use Rattle.rela_fib.proofs.Indexing.{none_chosen, one_chosen}
use Rattle.rela_fib.proofs.Found.{no_member}

-- ---- two lists side by side

pub zip_push : {A B : Type 0} (R : A → B → Type 0) (xs : List A) (ys : List B) (x : A) (y : B) → AllZip R xs ys → R x y → AllZip R (xs ++ x ∷ []) (ys ++ y ∷ [])
zip_push R [] [] x y h one = (one, tt)
zip_push R [] (b ∷ ys) x y h one = absurd h
zip_push R (a ∷ xs) [] x y h one = absurd h
zip_push R (a ∷ xs) (b ∷ ys) x y h one = (h.0, zip_push R xs ys x y h.1 one)

pub zip_length : {A B : Type 0} (R : A → B → Type 0) (xs : List A) (ys : List B) → AllZip R xs ys → length xs ≡ length ys
zip_length R [] [] h = refl
zip_length R [] (b ∷ ys) h = absurd h
zip_length R (a ∷ xs) [] h = absurd h
zip_length R (a ∷ xs) (b ∷ ys) h = ap suc (zip_length R xs ys h.1)

pub zip_back : {A B : Type 0} (R : A → B → Type 0) (xs : List A) (ys : List B) (k : ℕ) (y : B) → AllZip R xs ys → slice_get ys k ≡ Some y → (x : A) × (slice_get xs k ≡ Some x) × R x y
zip_back R [] [] k y h at = absurd (cc)
zip_back R [] (b ∷ ys) k y h at = absurd h
zip_back R (a ∷ xs) [] k y h at = absurd h
zip_back R (a ∷ xs) (b ∷ ys) zero y h at = (a, refl, subst (λ z. R a z) (same_Some b y at) h.0)
zip_back R (a ∷ xs) (b ∷ ys) (suc k) y h at = zip_back R xs ys k y h.1 at

pub zip_right : {A B : Type 0} (R : A → B → Type 0) (P : B → Type 0) → ((x : A) (y : B) → R x y → P y) → (xs : List A) (ys : List B) → AllZip R xs ys → All P ys
zip_right R P f [] [] h = All-nil P
zip_right R P f [] (b ∷ ys) h = absurd h
zip_right R P f (a ∷ xs) [] h = absurd h
zip_right R P f (a ∷ xs) (b ∷ ys) h = All-cons P b ys (f a b h.0) (zip_right R P f xs ys h.1)

pub zip_compose : {A B C : Type 0} (R : A → B → Type 0) (S : B → C → Type 0) (T : A → C → Type 0) → ((x : A) (y : B) (z : C) → R x y → S y z → T x z) → (xs : List A) (ys : List B) (zs : List C) → AllZip R xs ys → AllZip S ys zs → AllZip T xs zs
zip_compose R S T f [] [] [] h k = tt
zip_compose R S T f [] [] (c ∷ zs) h k = absurd k
zip_compose R S T f [] (b ∷ ys) zs h k = absurd h
zip_compose R S T f (a ∷ xs) [] zs h k = absurd h
zip_compose R S T f (a ∷ xs) (b ∷ ys) [] h k = absurd k
zip_compose R S T f (a ∷ xs) (b ∷ ys) (c ∷ zs) h k = (f a b c h.0 k.0, zip_compose R S T f xs ys zs h.1 k.1)

pub zip_weaker : {A B : Type 0} (R S : A → B → Type 0) → ((x : A) (y : B) → R x y → S x y) → (xs : List A) (ys : List B) → AllZip R xs ys → AllZip S xs ys
zip_weaker R S f [] [] h = tt
zip_weaker R S f [] (b ∷ ys) h = absurd h
zip_weaker R S f (a ∷ xs) [] h = absurd h
zip_weaker R S f (a ∷ xs) (b ∷ ys) h = (f a b h.0, zip_weaker R S f xs ys h.1)

-- one more of each
pub zip_more : {A B : Type 0} (R : A → B → Type 0) (xs : List A) (ys ys' : List B) (i : ℕ) (x : A) (y : B) → i < length xs → x ≡ get_or xs i x → ys' ≡ ys ++ y ∷ [] → AllZip R (take i xs) ys → R x y → AllZip R (take (i + 1) xs) ys'
zip_more {B = B} R xs ys ys' i x y lt is pushed h one =
    let more : take (i + 1) xs ≡ take i xs ++ x ∷ [] = take_more xs i x lt ∙ ap (λ z. take i xs ++ z ∷ []) (sym is) in
    subst (λ zs. AllZip R zs ys') (sym more) (subst (AllZip R (take i xs ++ x ∷ [])) (sym pushed) (zip_push R (take i xs) ys x y h one))

pub zip_more_seen : {A B C : Type 0} (R : A → B → Type 0) (view : C → B) (xs : List A) (ys ys' : List C) (i : ℕ) (x : A) (y : C) → i < length xs → x ≡ get_or xs i x → ys' ≡ ys ++ y ∷ [] → AllZip R (take i xs) (map view ys) → R x (view y) → AllZip R (take (i + 1) xs) (map view ys')
zip_more_seen R view xs ys ys' i x y lt is pushed h one = zip_more R xs (map view ys) (map view ys') i x (view y) lt is (ap (map view) pushed ∙ map-append view ys (y ∷ [])) h one

-- what holds at each place still does where one more is put behind
pub at_push : {A : Type 0} (P : ℕ → A → Type 0) (xs : List A) (x : A) → ((k : ℕ) (y : A) → slice_get xs k ≡ Some y → P k y) → P (length xs) x → (k : ℕ) (y : A) → slice_get (xs ++ x ∷ []) k ≡ Some y → P k y
at_push P [] x h one zero y at = subst (P 0) (same_Some x y at) one
at_push P [] x h one (suc k) y at = absurd (cc)
at_push P (z ∷ xs) x h one zero y at = h zero y at
at_push P (z ∷ xs) x h one (suc k) y at = at_push (λ (k : ℕ) (y : _). P (suc k) y) xs x (λ k y at. h (suc k) y at) one k y at

pub read_again : (xs : List ℕ) (i : ℕ) → i < length xs → get_or xs i 0 ≡ get_or xs i (get_or xs i 0)
read_again xs i lt = get_or_default xs i 0 (get_or xs i 0) lt

pub seen_more : {X B : Type 0} (view : X → B) (xs : List X) (i : ℕ) (x : X) → i < length xs → x ≡ get_or xs i x → map view (take (i + 1) xs) ≡ map view (take i xs) ++ view x ∷ []
seen_more view xs i x lt is = ap (map view) (take_more xs i x lt ∙ ap (λ z. take i xs ++ z ∷ []) (sym is)) ∙ map-append view (take i xs) (x ∷ [])

-- ---- a step

no_places : (nodes : List ℕ) → ArePlacesOf nodes [] []
no_places nodes = record {
  ascending = λ k lt. absurd (omega arith);
  below = All-nil (λ (k : ℕ). k < length nodes);
  each = All-nil (λ (k : ℕ). Contains [] (get_or nodes k 0));
  every = λ k lt h. absurd (no_member (get_or nodes k 0) h);
}

pub without_route : (nodes : List ℕ) (step : Step) → step.next ≡ [] → step.is_delivered ≡ false → step.is_dropped ≡ true → IsStep nodes None step
without_route nodes step none delivered dropped = record { next = subst (ArePlacesOf nodes []) (sym none) (no_places nodes); delivered = delivered; dropped = dropped }

pub delivering : (nodes : List ℕ) (route : Route) (step : Step) → route.hops ≡ None → step.next ≡ [] → step.is_delivered ≡ true → step.is_dropped ≡ false → IsStep nodes (Some route) step
delivering nodes route step hops none delivered dropped = record {
  next = subst (ArePlacesOf nodes (chosen_hops (Some route))) (sym none) (subst (λ (hs : List ℕ). ArePlacesOf nodes hs []) (sym (ap (λ (o : Option (List ℕ)). unwrap_or o []) hops)) (no_places nodes));
  delivered = delivered ∙ sym (ap (λ (o : Option (List ℕ)). is_none o) hops);
  dropped = dropped ∙ sym (ap is_listed_empty hops);
}

listed_empty : (hops : List ℕ) → (length hops == 0) ≡ is_listed_empty (Some hops)
listed_empty [] = refl
listed_empty (h ∷ hs) = ne_eqb (length (h ∷ hs)) 0 (λ e. omega (arith, e))

pub forwarding : (nodes : List ℕ) (route : Route) (step : Step) (hops : List ℕ) → route.hops ≡ Some hops → ArePlacesOf nodes hops step.next → step.is_delivered ≡ false → step.is_dropped ≡ (length hops == 0) → IsStep nodes (Some route) step
forwarding nodes route step hops some next delivered dropped = record {
  next = subst (λ (hs : List ℕ). ArePlacesOf nodes hs step.next) (sym (ap (λ (o : Option (List ℕ)). unwrap_or o []) some)) next;
  delivered = delivered ∙ sym (ap (λ (o : Option (List ℕ)). is_none o) some);
  dropped = dropped ∙ listed_empty hops ∙ sym (ap is_listed_empty some);
}

-- ---- what a device does is by the route that it chooses

pub record Does (nodes : List ℕ) (routes : List Route) (a : ℕ) (step : Step) : Type 0 where
  pub choice : Option Route
  pub chosen : ChosenOf routes a choice
  pub step_is : IsStep nodes choice step

does_by : (nodes : List ℕ) (routes : List Route) (device : Device) (a : ℕ) (place : Option ℕ) (step : Step) → IsDevice nodes routes device → Longest (prefixes_of routes) a place → IsStepBy device place step → Does nodes routes a step
unfolding IsStepBy
does_by nodes routes device a None step is longest by = record { choice = None; chosen = none_chosen routes a None refl longest; step_is = subst (IsStep nodes None) (sym by) is.otherwise }
does_by nodes routes device a (Some place) step is longest by =
    let back = zip_back (λ (route : Route) (step : Step). IsStep nodes (Some route) step) routes device.steps.items place step is.steps by in
    record { choice = Some back.0; chosen = one_chosen routes a place (Some place) back.0 refl back.1 longest; step_is = back.2 }

pub device_does : (nodes : List ℕ) (routes : List Route) (device : Device) (a : ℕ) (step : Step) → IsDevice nodes routes device → IsStepAt device a step → Does nodes routes a step
device_does nodes routes device a step is at = does_by nodes routes device a at.place step is (subst (λ (ps : List Ipv4Prefix). Longest ps a at.place) is.prefixes at.longest) at.step_is

abbrev pub NodeDoes : Network → Forwarding → List ℕ → ℕ → ℕ → Step → Type 0
NodeDoes network f nodes a node step = Does nodes (routes_of f (location_of level.Device network node)) a step

pub nodes_do : (network : Network) (f : Forwarding) (nodes : List ℕ) (d : Devices) (a : ℕ) (steps : List Step) → AreDevices network f nodes d → AreStepsAt d a steps → AllZip (NodeDoes network f nodes a) nodes steps
nodes_do network f nodes d a steps are at = zip_compose
    (λ (node place : ℕ). slice_get are.names place ≡ Some (location_of level.Device network node)) (λ (place : ℕ) (step : Step). IsStepOf d a place step) (NodeDoes network f nodes a) one nodes d.of_nodes.items steps are.placed at
  where
    one : (node place : ℕ) (step : Step) → slice_get are.names place ≡ Some (location_of level.Device network node) → IsStepOf d a place step → NodeDoes network f nodes a node step
    one node place step named of =
        let back = zip_back (λ (name : ℕ) (device : Device). IsDevice nodes (routes_of f name) device) are.names d.devices.items place of.device are.devices of.at in
        let same : back.0 ≡ location_of level.Device network node = same_Some back.0 (location_of level.Device network node) (sym back.1 ∙ named) in
        subst (λ name. Does nodes (routes_of f name) a step) same (device_does nodes (routes_of f back.0) of.device a step back.2 of.step_is)

-- ---- the graph

record Draws (network : Network) (f : Forwarding) (nodes : List ℕ) (a : ℕ) (first : List ℕ) (steps : List Step) : Type 0 where
  choices : List (Option Route)
  chosen : AllZip (λ node choice. Chosen f (location_of level.Device network node) a choice) first choices
  next : AllZip (λ choice places. ArePlacesOf nodes (chosen_hops choice) places) choices (map (λ (s : Step). s.next) steps)
  delivered : (k : ℕ) → numbers_from (λ (s : Step). s.is_delivered) k steps ≡ numbers_from is_delivered k choices
  dropped : (k : ℕ) → numbers_from (λ (s : Step). s.is_dropped) k steps ≡ numbers_from is_dropped k choices

numbers_cons : {A B : Type 0} (test : A → Bool) (test' : B → Bool) (x : A) (y : B) (xs : List A) (ys : List B) → test x ≡ test' y → ((k : ℕ) → numbers_from test k xs ≡ numbers_from test' k ys) → (k : ℕ) → numbers_from test k (x ∷ xs) ≡ numbers_from test' k (y ∷ ys)
numbers_cons test test' x y xs ys same rest k = ap (λ b. number_if b k ++ numbers_from test (k + 1) xs) same ∙ ap (λ (ns : List ℕ). number_if (test' y) k ++ ns) (rest (k + 1))

draws : (network : Network) (f : Forwarding) (nodes : List ℕ) (a : ℕ) (first : List ℕ) (steps : List Step) → AllZip (NodeDoes network f nodes a) first steps → Draws network f nodes a first steps
draws network f nodes a [] [] h = record { choices = []; chosen = tt; next = tt; delivered = λ k. refl; dropped = λ k. refl }
draws network f nodes a [] (s ∷ steps) h = absurd h
draws network f nodes a (n ∷ first) [] h = absurd h
draws network f nodes a (n ∷ first) (s ∷ steps) h =
    let rest = draws network f nodes a first steps h.1 in
    record {
      choices = h.0.choice ∷ rest.choices;
      chosen = (h.0.chosen, rest.chosen);
      next = (h.0.step_is.next, rest.next);
      delivered = numbers_cons (λ (s : Step). s.is_delivered) is_delivered s h.0.choice steps rest.choices h.0.step_is.delivered rest.delivered;
      dropped = numbers_cons (λ (s : Step). s.is_dropped) is_dropped s h.0.choice steps rest.choices h.0.step_is.dropped rest.dropped;
    }

pub graph_known : (network : Network) (f : Forwarding) (nodes : List ℕ) (d : Devices) (a : ℕ) (steps : List Step) → AreDevices network f nodes d → AreStepsAt d a steps → IsGraphAt network f nodes a (graph_of steps)
graph_known network f nodes d a steps are at =
    let all = draws network f nodes a nodes steps (nodes_do network f nodes d a steps are at) in
    record { choices = all.choices; chosen = all.chosen; next = map (λ (s : Step). s.next) steps; next_are = all.next; edges = refl; delivered = all.delivered 0; dropped = all.dropped 0 }

-- what holds of one address of a class holds of all
pub graph_uniform : (network : Network) (f : Forwarding) (nodes : List ℕ) (c : Ipv4Prefix) (a b : ℕ) (graph : Graph) → IsUniform f c → Holds c a → Holds c b → IsGraphAt network f nodes a graph → IsGraphAt network f nodes b graph
graph_uniform network f nodes c a b graph uniform in_a in_b is = record {
  choices = is.choices;
  chosen = moved nodes is.choices is.chosen;
  next = is.next;
  next_are = is.next_are;
  edges = is.edges;
  delivered = is.delivered;
  dropped = is.dropped;
}
  where
    moved : (ns : List ℕ) (cs : List (Option Route)) → AllZip (λ node choice. Chosen f (location_of level.Device network node) a choice) ns cs → AllZip (λ node choice. Chosen f (location_of level.Device network node) b choice) ns cs
    moved [] [] h = tt
    moved [] (x ∷ cs) h = absurd h
    moved (n ∷ ns) [] h = absurd h
    moved (n ∷ ns) (x ∷ cs) h = (uniform a b (location_of level.Device network n) x in_a in_b h.0, moved ns cs h.1)

-- ---- places that stay below

device_matched : (nodes : List ℕ) (routes : List Route) (device : Device) → IsDevice nodes routes device → length device.prefixes ≡ length device.steps.items
device_matched nodes routes device is = ap length is.prefixes ∙ length-map routes (λ (r : Route). r.prefix) ∙ zip_length (λ (route : Route) (step : Step). IsStep nodes (Some route) step) routes device.steps.items is.steps

pub matched : (network : Network) (f : Forwarding) (nodes : List ℕ) (d : Devices) → AreDevices network f nodes d → IsMatched d
matched network f nodes d are =
    let Named : ℕ → Device → Type 0 = λ name device. IsDevice nodes (routes_of f name) device in
    let as_many : length are.names ≡ length d.devices.items = zip_length Named are.names d.devices.items are.devices in
    record {
      devices = zip_right Named (λ (device : Device). length device.prefixes ≡ length device.steps.items) (λ name device is. device_matched nodes (routes_of f name) device is) are.names d.devices.items are.devices;
      of_nodes = zip_right (λ (node place : ℕ). slice_get are.names place ≡ Some (location_of level.Device network node)) (λ (place : ℕ). place < length d.devices.items)
          (λ node place at. let lt : place < length are.names = slice_get_within are.names place (location_of level.Device network node) at in omega (arith, lt, as_many)) nodes d.of_nodes.items are.placed;
    }

pub as_many_nodes : (network : Network) (f : Forwarding) (nodes : List ℕ) (d : Devices) → AreDevices network f nodes d → length nodes ≡ length d.of_nodes.items
as_many_nodes network f nodes d are = zip_length (λ (node place : ℕ). slice_get are.names place ≡ Some (location_of level.Device network node)) nodes d.of_nodes.items are.placed

-- ---- one step more

edges_push : (k : ℕ) (xs : List (List ℕ)) (ps : List ℕ) → edges_from k (xs ++ ps ∷ []) ≡ edges_from k xs ++ edges_to (k + length xs) ps
edges_push k [] ps = append-nil (edges_to k ps) ∙ ap (λ n. edges_to n ps) (let e : k ≡ k + 0 = omega arith in e)
edges_push k (qs ∷ xs) ps =
    ap (λ (es : List (ℕ × ℕ)). edges_to k qs ++ es) (edges_push (k + 1) xs ps)
    ∙ sym (append_assoc (edges_to k qs) (edges_from (k + 1) xs) (edges_to (k + 1 + length xs) ps))
    ∙ ap (λ n. (edges_to k qs ++ edges_from (k + 1) xs) ++ edges_to n ps) (let e : k + 1 + length xs ≡ k + length (qs ∷ xs) = omega arith in e)

numbers_push : {A : Type 0} (test : A → Bool) (k : ℕ) (cs : List A) (c : A) → numbers_from test k (cs ++ c ∷ []) ≡ numbers_from test k cs ++ number_if (test c) (k + length cs)
numbers_push test k [] c = append-nil (number_if (test c) k) ∙ ap (number_if (test c)) (let e : k ≡ k + 0 = omega arith in e)
numbers_push test k (d ∷ cs) c =
    ap (λ (ns : List ℕ). number_if (test d) k ++ ns) (numbers_push test (k + 1) cs c)
    ∙ sym (append_assoc (number_if (test d) k) (numbers_from test (k + 1) cs) (number_if (test c) (k + 1 + length cs)))
    ∙ ap (λ n. (number_if (test d) k ++ numbers_from test (k + 1) cs) ++ number_if (test c) n) (let e : k + 1 + length cs ≡ k + length (d ∷ cs) = omega arith in e)

pub edges_more : (steps steps' : List Step) (s : Step) (k : ℕ) → steps' ≡ steps ++ s ∷ [] → k ≡ length steps → (graph_of steps').edges ≡ (graph_of steps).edges ++ edges_to k s.next
edges_more steps steps' s k is at =
    let next : List Step → List (List ℕ) = λ ss. map (λ (s : Step). s.next) ss in
    let place : 0 + length (next steps) ≡ k = omega (arith, at, length-map steps (λ (s : Step). s.next)) in
    ap (λ (ss : List Step). edges_from 0 (next ss)) is ∙ ap (edges_from 0) (map-append (λ (s : Step). s.next) steps (s ∷ [])) ∙ edges_push 0 (next steps) s.next ∙ ap (λ n. edges_from 0 (next steps) ++ edges_to n s.next) place

pub numbers_more : {A : Type 0} (test : A → Bool) (xs xs' : List A) (x : A) (k : ℕ) → xs' ≡ xs ++ x ∷ [] → k ≡ length xs → numbers_from test 0 xs' ≡ numbers_from test 0 xs ++ number_if (test x) k
numbers_more test xs xs' x k is at = ap (numbers_from test 0) is ∙ numbers_push test 0 xs x ∙ ap (λ n. numbers_from test 0 xs ++ number_if (test x) n) (let e : 0 + length xs ≡ k = omega (arith, at) in e)

-- ---- how many edges there are

abbrev pub total : List (List ℕ) → ℕ
total [] = 0
total (xs ∷ xss) = length xs + total xss

length-edges_to : (k : ℕ) (xs : List ℕ) → length (edges_to k xs) ≡ length xs
length-edges_to k [] = refl
length-edges_to k (x ∷ xs) = ap suc (length-edges_to k xs)

edge_count : (k : ℕ) (xss : List (List ℕ)) → length (edges_from k xss) ≡ total xss
edge_count k [] = refl
edge_count k (xs ∷ xss) = omega (arith, length-append (edges_to k xs) (edges_from (k + 1) xss), length-edges_to k xs, edge_count (k + 1) xss)

total_append : (xss yss : List (List ℕ)) → total (xss ++ yss) ≡ total xss + total yss
total_append [] yss = omega arith
total_append (xs ∷ xss) yss = omega (arith, total_append xss yss)

abbrev pub nexts : List Step → List (List ℕ)
nexts steps = map (λ (s : Step). s.next) steps

pub steps_edges : (steps : List Step) → length (graph_of steps).edges ≡ total (nexts steps)
steps_edges steps = edge_count 0 (nexts steps)

pub total_more : (steps steps' : List Step) (s : Step) → steps' ≡ steps ++ s ∷ [] → total (nexts steps') ≡ total (nexts steps) + length s.next
total_more steps steps' s is = ap (λ (ss : List Step). total (nexts ss)) is ∙ ap total (map-append (λ (s : Step). s.next) steps (s ∷ [])) ∙ total_append (nexts steps) (s.next ∷ []) ∙ omega arith

pub total_part : (steps part rest : List Step) → steps ≡ part ++ rest → total (nexts part) ≤ total (nexts steps)
total_part steps part rest is = let e : total (nexts steps) ≡ total (nexts part) + total (nexts rest) = ap (λ (ss : List Step). total (nexts ss)) is ∙ ap total (map-append (λ (s : Step). s.next) part rest) ∙ total_append (nexts part) (nexts rest) in omega (arith, e)

-- ---- the count goes on, or there are too many

pub many_then : {X : Type 0} (view : X → Step) (xs : List X) (i spare count : ℕ) (x : X) → i < length xs → x ≡ get_or xs i x → spare + total (nexts (map view (take i xs))) ≡ 100000 → count ≡ length (view x).next → spare < count → true ≡ nat_lt 100000 (length (graph_of (map view xs)).edges)
many_then view xs i spare count x lt is known next over =
    let more = total_more (map view (take i xs)) (map view (take (i + 1) xs)) (view x) (seen_more view xs i x lt is) in
    let parts : map view xs ≡ map view (take (i + 1) xs) ++ map view (drop (i + 1) xs) = ap (map view) (sym (take-append-drop (i + 1) xs)) ∙ map-append view (take (i + 1) xs) (drop (i + 1) xs) in
    let part = total_part (map view xs) (map view (take (i + 1) xs)) (map view (drop (i + 1) xs)) parts in
    sym (lt-ltb 100000 (length (graph_of (map view xs)).edges) (omega (arith, more, part, known, next, over, steps_edges (map view xs))))

pub many_more : {X : Type 0} (view : X → Step) (xs : List X) (i spare spare' count : ℕ) (x : X) → i < length xs → x ≡ get_or xs i x → spare + total (nexts (map view (take i xs))) ≡ 100000 → count ≡ length (view x).next → spare' + count ≡ spare → spare' + total (nexts (map view (take (i + 1) xs))) ≡ 100000
many_more view xs i spare spare' count x lt is known next left = omega (arith, known, next, left, total_more (map view (take i xs)) (map view (take (i + 1) xs)) (view x) (seen_more view xs i x lt is))

pub not_many_steps : {X : Type 0} (view : X → Step) (xs : List X) (i spare : ℕ) → length xs ≤ i → spare + total (nexts (map view (take i xs))) ≡ 100000 → false ≡ nat_lt 100000 (length (graph_of (map view xs)).edges)
not_many_steps view xs i spare le known =
    let all : total (nexts (map view (take i xs))) ≡ total (nexts (map view xs)) = ap (λ ys. total (nexts (map view ys))) (take_all i xs le) in
    sym (le-ltb 100000 (length (graph_of (map view xs)).edges) (omega (arith, known, all, steps_edges (map view xs))))

-- ---- the step of a device for an address

pub longest_below : (ps : List Ipv4Prefix) (a k : ℕ) (r : Option ℕ) → r ≡ Some k → Longest ps a r → k < length ps
unfolding LongestWanted
longest_below ps a k r is h = let found : LongestWanted (λ p. Holds p a) ps (Some k) = subst (LongestWanted (λ p. Holds p a) ps) is h in slice_get_within ps k found.prefix found.at

pub within_longest : (d : Device) (a : ℕ) (r : Option ℕ) → Longest d.prefixes a r → length d.prefixes ≡ length d.steps.items → IsWithin d r
within_longest d a None h same = tt
within_longest d a (Some k) h same = omega (arith, same, longest_below d.prefixes a k (Some k) refl h)

pub step_some : (d : Device) (k : ℕ) (choice : Option ℕ) (s : Step) → choice ≡ Some k → IsWithin d choice → s ≡ get_or d.steps.items k s → IsStepBy d choice s
unfolding IsStepBy
step_some d k choice s is within read =
    let lt : k < length d.steps.items = subst (λ (o : Option ℕ). IsWithin d o) is within in
    subst (λ (o : Option ℕ). IsStepBy d o s) (sym is) (slice_get_read d.steps.items (length d.steps.items) k s refl lt read)

pub step_none : (d : Device) (choice : Option ℕ) (s : Step) → choice ≡ None → s ≡ d.otherwise → IsStepBy d choice s
unfolding IsStepBy
step_none d choice s is same = subst (λ (o : Option ℕ). IsStepBy d o s) (sym is) same

-- what is said of two lists side by side holds at a place
pub zip_at : {A B : Type 0} (R : A → B → Type 0) (xs : List A) (ys : List B) (k : ℕ) (x : A) (y : B) → AllZip R xs ys → k < length xs → x ≡ get_or xs k x → y ≡ get_or ys k y → R x y
zip_at R [] ys k x y h lt at_x at_y = absurd (omega (arith, lt))
zip_at R (a ∷ xs) [] k x y h lt at_x at_y = absurd h
zip_at R (a ∷ xs) (b ∷ ys) zero x y h lt at_x at_y = subst (λ c. R c y) (sym at_x) (subst (R a) (sym at_y) h.0)
zip_at R (a ∷ xs) (b ∷ ys) (suc k) x y h lt at_x at_y = zip_at R xs ys k x y h.1 (omega (arith, lt)) at_x at_y

pub step_with : (devices : List Device) (choices : List (Option ℕ)) (place : ℕ) (device : Device) (choice : Option ℕ) (step : Step) → place < length devices → place < length choices → device ≡ get_or devices place device → choice ≡ get_or choices place choice
    → IsStepBy device choice step → IsStepWith devices choices place step
step_with devices choices place device choice step lt lt' at_device at_choice by = record {
  device = device;
  choice = choice;
  at = slice_get_read devices (length devices) place device refl lt at_device;
  chosen = slice_get_read choices (length choices) place choice refl lt' at_choice;
  step_is = by;
}

-- the steps by what the devices choose for an address
pub steps_chosen : (d : Devices) (a : ℕ) (choices : List (Option ℕ)) (steps : List Step) → AreChoices d.devices.items a choices → AreStepsWith d choices steps → AreStepsAt d a steps
steps_chosen d a choices steps chosen with_choices = zip_weaker (λ (place : ℕ) (step : Step). IsStepWith d.devices.items choices place step) (λ (place : ℕ) (step : Step). IsStepOf d a place step) one d.of_nodes.items steps with_choices
  where
    one : (place : ℕ) (step : Step) → IsStepWith d.devices.items choices place step → IsStepOf d a place step
    one place step is =
        let back = zip_back (λ (device : Device) (choice : Option ℕ). Longest device.prefixes a choice) d.devices.items choices place is.choice chosen is.chosen in
        let same : back.0 ≡ is.device = same_Some back.0 is.device (sym back.1 ∙ is.at) in
        record {
          device = is.device;
          at = is.at;
          step_is = record { place = is.choice; longest = subst (λ (device : Device). Longest device.prefixes a is.choice) same back.2; step_is = is.step_is };
        }

-- ---- one choice more

pub zip_set : {A B : Type 0} (R : A → B → Type 0) (xs : List A) (ys : List B) (i : ℕ) (x : A) (y : B) → i < length xs → x ≡ get_or xs i x → R x y → AllZip R xs ys → AllZip R xs (set ys i y)
zip_set R [] ys i x y lt is one h = absurd (omega (arith, lt))
zip_set R (a ∷ xs) [] i x y lt is one h = absurd h
zip_set R (a ∷ xs) (b ∷ ys) zero x y lt is one h = (subst (λ z. R z y) is one, h.1)
zip_set R (a ∷ xs) (b ∷ ys) (suc i) x y lt is one h = (h.0, zip_set R xs ys i x y (omega (arith, lt)) is one h.1)

option_decides : (a b : Option ℕ) → Decides (option_eq nat_eq a b) (a ≡ b)
option_decides None None = (λ _. refl, λ _. refl)
option_decides None (Some y) = (λ e. absurd (cc), λ e. absurd (cc))
option_decides (Some x) None = (λ e. absurd (cc), λ e. absurd (cc))
option_decides (Some x) (Some y) = (λ e. ap Some ((Decides-eqb x y).0 e), λ e. (Decides-eqb x y).1 (let same : x ≡ y = cc in same))

true_by_not : (b : Bool) → not b ≡ false → b ≡ true
true_by_not true e = refl
true_by_not false e = absurd (cc)

-- a choice that is the same changes nothing
pub same_choice : (choices : List (Option ℕ)) (i : ℕ) (choice : Option ℕ) (differs : Bool) → differs ≡ not (option_eq nat_eq (get_or choices i None) choice) → differs ≡ false → set choices i choice ≡ choices
same_choice choices i choice differs is none =
    let same : get_or choices i None ≡ choice = (option_decides (get_or choices i None) choice).0 (true_by_not (option_eq nat_eq (get_or choices i None) choice) (sym is ∙ none)) in
    subst (λ (o : Option ℕ). set choices i o ≡ choices) same (set-get_or choices i None)

no_route : (devices : List Device) → AreWithin devices (replicate (length devices) None)
no_route [] = tt
no_route (d ∷ devices) = (tt, no_route devices)

pub none_within : (devices : List Device) (none choices : List (Option ℕ)) (count before : ℕ) → none ≡ [] → before ≡ 0 → count ≡ length devices → choices ≡ take count none ++ replicate (count - before) None → AreWithin devices choices
none_within devices none choices count before empty start all is =
    let nothing : take count none ≡ [] = ap (take count) empty ∙ take_all count [] (omega arith) in
    let left : count - before ≡ length devices = omega (arith, start, all) in
    let same : choices ≡ replicate (length devices) None = is ∙ ap (λ (cs : List (Option ℕ)). cs ++ replicate (count - before) None) nothing ∙ ap (λ n. replicate n None) left in
    subst (AreWithin devices) (sym same) (no_route devices)

-- ---- the places of devices

slice_get_front : (xs ys : List ℕ) (k x : ℕ) → slice_get xs k ≡ Some x → slice_get (xs ++ ys) k ≡ Some x
slice_get_front [] ys k x at = absurd (cc)
slice_get_front (z ∷ xs) ys zero x at = at
slice_get_front (z ∷ xs) ys (suc k) x at = slice_get_front xs ys k x at

kept_by : (b : Bool) (keys : List ℕ) (device k x : ℕ) → slice_get keys k ≡ Some x → slice_get (cond b keys (keys ++ device ∷ [])) k ≡ Some x
kept_by true keys device k x at = at
kept_by false keys device k x at = slice_get_front keys (device ∷ []) k x at

grown_by : (b : Bool) (keys : List ℕ) (device : ℕ) → length (cond b keys (keys ++ device ∷ [])) ≤ length keys + 1
grown_by true keys device = omega arith
grown_by false keys device = omega (arith, length-append keys (device ∷ []))

abbrev pub Inserted : List ℕ → ℕ → List ℕ → Type 0
Inserted keys device keys' = keys' ≡ cond (list_any (nat_eq device) keys) keys (keys ++ device ∷ [])

pub keys_grow : (keys keys' : List ℕ) (device : ℕ) → Inserted keys device keys' → length keys' ≤ length keys + 1
keys_grow keys keys' device is = omega (arith, ap length is, grown_by (list_any (nat_eq device) keys) keys device)

pub placed_more : (network : Network) (nodes : List ℕ) (i device place : ℕ) (keys keys' places places' : List ℕ) → i < length nodes → device ≡ location_of level.Device network (get_or nodes i 0) → Inserted keys device keys' → (k : ℕ) × (slice_get keys' place ≡ Some k) × (nat_eq device k ≡ true) → places' ≡ places ++ place ∷ []
    → ArePlaced network (take i nodes) keys places → ArePlaced network (take (i + 1) nodes) keys' places'
placed_more network nodes i device place keys keys' places places' lt lifted inserted stored pushed h =
    let At : List ℕ → ℕ → ℕ → Type 0 = λ names node place. slice_get names place ≡ Some (location_of level.Device network node) in
    let old : AllZip (At keys') (take i nodes) places = zip_weaker (At keys) (At keys') (λ node place at. subst (λ (names : List ℕ). At names node place) (sym inserted) (kept_by (list_any (nat_eq device) keys) keys device place (location_of level.Device network node) at)) (take i nodes) places h in
    let same : device ≡ stored.0 = eqb-true device stored.0 stored.2 in
    zip_more (At keys') nodes places places' i (get_or nodes i 0) place lt (read_again nodes i lt) pushed old (stored.1 ∙ ap Some (sym same ∙ lifted))
