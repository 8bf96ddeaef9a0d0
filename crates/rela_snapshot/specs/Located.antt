-- Which nodes stand at locations of a level, and which at locations of a network.
use Rattle.std.specs.Prelude.{ℕ, ◌<◌, List, length}
use Rattle.std.specs.List.{All}
use Rattle.rela_names.specs.declared.level.Level.{Level}
use Rattle.rela_names.specs.declared.level.Level.TheVariants.{Interface, Device, Group}
use Rattle.rela_locations.specs.Network.{Network, alphabet_of}
use Rattle.rela_graph.specs.declared.node.Node.{Node}
use Rattle.rela_snapshot.specs.declared.snapshot.Flow.{Flow}
use Rattle.rela_graph.specs.Topology.{Topology, symbol_at}

-- the node's symbol at the level is one of the locations of these names
unfoldable pub StandsAt : List (List ℕ) → Level → Node → Type 0
StandsAt names level node = symbol_at level node < length names

-- so is that of each node of the graph
abbrev pub IsLocated : List (List ℕ) → Level → Topology → Type 0
IsLocated names level g = All (StandsAt names level) g.nodes

-- so are those of the graphs of all flows
abbrev pub AreLocated : List (List ℕ) → Level → List Flow → Type 0
AreLocated names level flows = All (λ flow. IsLocated names level flow.graph) flows

-- the node's interface, device and group are locations of the network
pub record StandsIn (network : Network) (node : Node) : Type 0 where
  pub interface : node.interface < length (alphabet_of Interface network)
  pub device : node.device < length (alphabet_of Device network)
  pub group : node.group < length (alphabet_of Group network)

-- so are those of each node of the graph
abbrev pub IsLocatedIn : Network → Topology → Type 0
IsLocatedIn network g = All (StandsIn network) g.nodes

-- so are those of the graphs of all flows
abbrev pub AreLocatedIn : Network → List Flow → Type 0
AreLocatedIn network flows = All (λ flow. IsLocatedIn network flow.graph) flows
