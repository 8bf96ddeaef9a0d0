-- A forwarding graph as data, and what it says of its nodes, which are numbered from 0.
use Rattle.std.specs.Prelude.{◌≡◌, ℕ, ◌<◌, ◌≤◌, Bool, false, IsTrue, List, length, Contains, slice_index_or}
use Rattle.std.specs.List.{All}
use Rattle.rela_names.specs.declared.level.Level.{Level}
use Rattle.rela_names.specs.declared.level.Level.TheVariants.{Interface, Device, Group}
use Rattle.rela_graph.specs.declared.node.Node.{Node}
use Rattle.rela_graph.specs.declared.node.Link.{Link}

-- the nodes, the edges between them, and for each node whether it is a start, and whether it is listed
-- as one that delivers and as one that drops
pub record Topology : Type 0 where
  pub nodes : List Node
  pub edges : List Link
  pub starts : List Bool
  pub delivered : List Bool
  pub dropped : List Bool

-- the flag is set for n, which it is for no number past the last
abbrev pub HasFlag : List Bool → ℕ → Type 0
HasFlag flags n = IsTrue (slice_index_or flags n false)

abbrev pub HasEdge : Topology → ℕ → ℕ → Type 0
HasEdge g a b = Contains g.edges (record { a = a; b = b })

abbrev pub IsStart : Topology → ℕ → Type 0
IsStart g n = HasFlag g.starts n

abbrev pub IsDelivered : Topology → ℕ → Type 0
IsDelivered g n = HasFlag g.delivered n

abbrev pub IsDropped : Topology → ℕ → Type 0
IsDropped g n = HasFlag g.dropped n

-- both ends are nodes
abbrev pub JoinsNodes : ℕ → Link → Type 0
JoinsNodes count link = (link.a < count) × (link.b < count)

-- an edge from n to a node
abbrev pub IsEdgeFrom : Topology → ℕ → Link → Type 0
IsEdgeFrom g n link = (link.a ≡ n) × (link.b < length g.nodes) × HasEdge g n link.b

-- at most 10,000 nodes, with a flag of each kind for each, and at most 100,000 edges between them
pub record IsTopology (g : Topology) : Type 0 where
  pub few_nodes : length g.nodes ≤ 10000
  pub few_edges : length g.edges ≤ 100000
  pub joins : All (JoinsNodes (length g.nodes)) g.edges
  pub starts : length g.starts ≡ length g.nodes
  pub delivered : length g.delivered ≡ length g.nodes
  pub dropped : length g.dropped ≡ length g.nodes

-- the node's location at the level
abbrev pub symbol_at : Level → Node → ℕ
symbol_at Interface node = node.interface
symbol_at Device node = node.device
symbol_at Group node = node.group
