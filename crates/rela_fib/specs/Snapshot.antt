-- The snapshot that two table files give: a flow for each class of addresses that the routes of
-- both cut, with the graph that the tables of the first give for these addresses.
use Rattle.std.specs.Prelude.{◌≡◌, ℕ, ◌<◌, ◌≤◌, ◌⊎◌, List, length, map}
use Rattle.std.specs.List.{All, Contains}
use Rattle.rela_flows.specs.declared.prefix.Ipv4Prefix.{Ipv4Prefix}
use Rattle.rela_locations.specs.Network.{Network}
use Rattle.rela_prefixes.specs.Classes.{AreClasses}
use Rattle.rela_prefixes.specs.Holding.{Holds}
use Rattle.rela_tables.specs.Forwarding.{Forwarding}
use Rattle.rela_fib.specs.Graph.{AreNodes, ArePlacesOf, Graph, IsGraphAt}
use Rattle.rela_fib.specs.Prefixes.{prefixes_in_both}
use Rattle.rela_fib.specs.Text.{Drawn, Flow, snapshot_bytes}

-- the graph is the one for each address of the class
abbrev pub IsGraphOf : Network → Forwarding → List ℕ → Ipv4Prefix → Graph → Type 0
IsGraphOf network f nodes class graph = (a : ℕ) → Holds class a → IsGraphAt network f nodes a graph

abbrev pub classes_of : List Flow → List Ipv4Prefix
classes_of flows = map (λ (flow : Flow). flow.class) flows

-- The flows are the classes in the order of their addresses. Each address lies in just one class,
-- and the graph of a flow is the one for each address of its class.
pub record IsDrawn (network : Network) (f other : Forwarding) (d : Drawn) : Type 0 where
  pub nodes : AreNodes f d.nodes
  pub starts : ArePlacesOf d.nodes f.starts d.starts
  pub classes : AreClasses (prefixes_in_both f other) (classes_of d.flows)
  pub graphs : All (λ (flow : Flow). IsGraphOf network f d.nodes flow.class flow.graph) d.flows

-- no more nodes, flows and edges than a snapshot may have
pub record IsFew (d : Drawn) : Type 0 where
  pub nodes : length d.nodes ≤ 10000
  pub flows : length d.flows ≤ 10000
  pub edges : All (λ (flow : Flow). length flow.graph.edges ≤ 100000) d.flows

-- the bytes of the snapshot that two files give
pub record IsSnapshotOf (network : Network) (f other : Forwarding) (text : List ℕ) : Type 0 where
  pub drawn : Drawn
  pub drawn_from : IsDrawn network f other drawn
  pub few : IsFew drawn
  pub bytes : text ≡ snapshot_bytes network drawn
  pub short : length text ≤ 33554432

-- there are few nodes, flows and edges, and more bytes than a snapshot may have
pub record IsTooLong (network : Network) (f other : Forwarding) : Type 0 where
  pub drawn : Drawn
  pub drawn_from : IsDrawn network f other drawn
  pub few : IsFew drawn
  pub long : 33554432 < length (snapshot_bytes network drawn)

abbrev pub HasManyNodes : Forwarding → Type 0
HasManyNodes f = (nodes : List ℕ) × AreNodes f nodes × (10000 < length nodes)

abbrev pub HasManyClasses : Forwarding → Forwarding → Type 0
HasManyClasses f other =
    (classes : List Ipv4Prefix) × AreClasses (prefixes_in_both f other) classes
    × (10000 < length classes)

-- the graph of some class has more edges than a snapshot may have
pub record HasManyEdges (network : Network) (f other : Forwarding) : Type 0 where
  pub nodes : List ℕ
  pub nodes_are : AreNodes f nodes
  pub classes : List Ipv4Prefix
  pub classes_are : AreClasses (prefixes_in_both f other) classes
  pub class : Ipv4Prefix
  pub listed : Contains classes class
  pub graph : Graph
  pub graph_is : IsGraphOf network f nodes class graph
  pub many : 100000 < length graph.edges

-- there are more nodes, classes or edges than a snapshot may have
abbrev pub IsTooMany : Network → Forwarding → Forwarding → Type 0
IsTooMany network f other = HasManyNodes f ⊎ (HasManyClasses f other ⊎ HasManyEdges network f other)
