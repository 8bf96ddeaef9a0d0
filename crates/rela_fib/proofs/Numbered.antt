-- The numbers of a graph are places of nodes.
use Rattle.std.proofs.Common.{◌≡◌, sym, subst, ℕ, ◌+◌, ◌<◌, ◌≤◌, Bool, true, false, List, [], ◌∷◌, length, Option, arith}
use Rattle.std.specs.List.{All}
use Rattle.std.proofs.lemmas.List.Elements.{All-nil, All-cons, All-append, All-head, All-map, All-tail, All-weaker}
use Rattle.rela_locations.specs.Network.{Network, location_of}
use Rattle.rela_names.specs.declared.level.Level.TheVariants.{Device}
use Rattle.rela_tables.specs.Chosen.{Chosen}
use Rattle.rela_tables.specs.Forwarding.{Forwarding}
use Rattle.rela_tables.specs.declared.route.Route.{Route}
use Rattle.rela_fib.specs.Graph.{ArePlacesOf, Graph, IsGraphAt, chosen_hops, edges_from, edges_to, number_if, numbers_from, is_delivered, is_dropped}
use Rattle.rela_fib.proofs.Steps.{zip_length, zip_right}

abbrev pub AreBelow : ℕ → List ℕ → Type 0
AreBelow count ns = All (λ (n : ℕ). n < count) ns

abbrev pub Joins : ℕ → ℕ × ℕ → Type 0
Joins count edge = (edge.0 < count) × (edge.1 < count)

-- all edges and lists name places below a number
pub record IsBelow (count : ℕ) (graph : Graph) : Type 0 where
  pub edges : All (Joins count) graph.edges
  pub delivered : AreBelow count graph.delivered
  pub dropped : AreBelow count graph.dropped

if_below : (passes : Bool) (k count : ℕ) → k < count → AreBelow count (number_if passes k)
if_below true k count lt = All-cons (λ (n : ℕ). n < count) k [] lt (All-nil (λ (n : ℕ). n < count))
if_below false k count lt = All-nil (λ (n : ℕ). n < count)

numbers_below : {A : Type 0} (test : A → Bool) (k count : ℕ) (xs : List A) → k + length xs ≤ count → AreBelow count (numbers_from test k xs)
numbers_below test k count [] le = All-nil (λ (n : ℕ). n < count)
numbers_below test k count (x ∷ xs) le =
    All-append (λ (n : ℕ). n < count) (number_if (test x) k) (numbers_from test (k + 1) xs) (if_below (test x) k count (omega (arith, le))) (numbers_below test (k + 1) count xs (omega (arith, le)))

edges_to_below : (k count : ℕ) (places : List ℕ) → k < count → AreBelow count places → All (Joins count) (edges_to k places)
edges_to_below k count places lt below = All-map (Joins count) (λ (place : ℕ). (k, place)) places (All-weaker (λ (n : ℕ). n < count) (λ (place : ℕ). Joins count (k, place)) (λ place h. (lt, h)) places below)

edges_below : (k count : ℕ) (next : List (List ℕ)) → k + length next ≤ count → All (AreBelow count) next → All (Joins count) (edges_from k next)
edges_below k count [] le each = All-nil (Joins count)
edges_below k count (places ∷ more) le each =
    All-append (Joins count) (edges_to k places) (edges_from (k + 1) more) (edges_to_below k count places (omega (arith, le)) (All-head (AreBelow count) places more each))
    (edges_below (k + 1) count more (omega (arith, le)) (All-tail (AreBelow count) places more each))

pub graph_below : (network : Network) (f : Forwarding) (nodes : List ℕ) (a : ℕ) (graph : Graph) → IsGraphAt network f nodes a graph → IsBelow (length nodes) graph
graph_below network f nodes a graph is =
    let Choose : ℕ → Option Route → Type 0 = λ node choice. Chosen f (location_of Device network node) a choice in
    let Follow : Option Route → List ℕ → Type 0 = λ choice places. ArePlacesOf nodes (chosen_hops choice) places in
    let chosen : length nodes ≡ length is.choices = zip_length Choose nodes is.choices is.chosen in
    let followed : length is.choices ≡ length is.next = zip_length Follow is.choices is.next is.next_are in
    let count : ℕ = length nodes in
    record {
      edges = subst (All (Joins count)) (sym is.edges) (edges_below 0 count is.next (omega (arith, chosen, followed)) (zip_right Follow (AreBelow count) (λ choice places are. are.below) is.choices is.next is.next_are));
      delivered = subst (AreBelow count) (sym is.delivered) (numbers_below is_delivered 0 count is.choices (omega (arith, chosen)));
      dropped = subst (AreBelow count) (sym is.dropped) (numbers_below is_dropped 0 count is.choices (omega (arith, chosen)));
    }
