-- The graph on which the packets to an address are forwarded.
use Rattle.std.specs.Prelude.{◌≡◌, ℕ, ◌+◌, ◌↔◌, Bool, true, false, is_none, if◌then◌else◌, List, [], ◌∷◌, ◌++◌, length, map, unwrap_or, slice_index, Option, Some, None}
use Rattle.std.specs.List.{AllZip, Contains, flat_map}
use Rattle.std.specs.List.Sorted.{IsStrictlyIncreasing}
use Rattle.rela_flows.specs.Plan.{ArePlaces}
use Rattle.rela_names.specs.declared.level.Level.TheVariants.{Device}
use Rattle.rela_locations.specs.Network.{Network, location_of}
use Rattle.rela_tables.specs.Chosen.{Chosen}
use Rattle.rela_tables.specs.Forwarding.{Forwarding}
use Rattle.rela_tables.specs.declared.route.Route.{Route}
use Rattle.rela_tables.specs.declared.table.Table.{Table}

abbrev pub hops_of : Route → List ℕ
hops_of route = unwrap_or route.hops []

abbrev pub hops_in : Table → List ℕ
hops_in table = flat_map hops_of table.routes

-- the interfaces of the starts and of the hops of all routes
abbrev pub interfaces_of : Forwarding → List ℕ
interfaces_of f = f.starts ++ flat_map hops_in f.tables

-- the nodes are these interfaces, each once, in the order of symbols
pub record AreNodes (f : Forwarding) (nodes : List ℕ) : Type 0 where
  pub ascending : IsStrictlyIncreasing nodes
  pub each : (s : ℕ) → Contains nodes s ↔ Contains (interfaces_of f) s

-- the places of the nodes that are among these interfaces, ascending
abbrev pub ArePlacesOf : List ℕ → List ℕ → List ℕ → Type 0
ArePlacesOf nodes interfaces places = ArePlaces (λ k. Contains interfaces (slice_index nodes k))
    (length nodes) places

-- the hops of what is chosen, if anything is
abbrev pub chosen_hops : Option Route → List ℕ
chosen_hops None = []
chosen_hops (Some route) = hops_of route

-- what is chosen has no list of hops
abbrev pub is_delivered : Option Route → Bool
is_delivered None = false
is_delivered (Some route) = is_none route.hops

abbrev pub is_listed_empty : Option (List ℕ) → Bool
is_listed_empty None = false
is_listed_empty (Some []) = true
is_listed_empty (Some (h ∷ hs)) = false

-- nothing is chosen, or what is chosen has an empty list of hops
abbrev pub is_dropped : Option Route → Bool
is_dropped None = true
is_dropped (Some route) = is_listed_empty route.hops

-- the number, where the test passes
abbrev pub number_if : Bool → ℕ → List ℕ
number_if passes k = if passes then k ∷ [] else []

-- the numbers of those that pass, counted from k on
abbrev pub numbers_from : {A : Type 0} → (A → Bool) → ℕ → List A → List ℕ
numbers_from test k [] = []
numbers_from test k (x ∷ xs) = number_if (test x) k ++ numbers_from test (k + 1) xs

-- the edges from a node to others
abbrev pub edges_to : ℕ → List ℕ → List (ℕ × ℕ)
edges_to k places = map (λ place. (k, place)) places

-- the edges from each node, counted from k on
abbrev pub edges_from : ℕ → List (List ℕ) → List (ℕ × ℕ)
edges_from k [] = []
edges_from k (places ∷ more) = edges_to k places ++ edges_from (k + 1) more

-- A graph whose nodes are named by their places in a list: its edges, and the nodes that deliver
-- and that drop.
pub record Graph : Type 0 where
  pub edges : List (ℕ × ℕ)
  pub delivered : List ℕ
  pub dropped : List ℕ

-- The graph has an edge from each node to each hop of what the node's device chooses for the
-- address. A node is delivered where the chosen route has no list of hops, and dropped where it is
-- neither delivered nor has a hop.
pub record IsGraphAt (network : Network) (f : Forwarding) (nodes : List ℕ) (a : ℕ)
    (graph : Graph) : Type 0 where
  pub choices : List (Option Route)
  pub chosen : AllZip (λ node choice. Chosen f (location_of Device network node) a
      choice) nodes choices
  pub next : List (List ℕ)
  pub next_are : AllZip (λ choice places.
      ArePlacesOf nodes (chosen_hops choice) places) choices next
  pub edges : graph.edges ≡ edges_from 0 next
  pub delivered : graph.delivered ≡ numbers_from is_delivered 0 choices
  pub dropped : graph.dropped ≡ numbers_from is_dropped 0 choices
