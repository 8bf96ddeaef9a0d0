-- A graph as a file lists it.
use Rattle.std.specs.Prelude.{◌≡◌, ℕ, ◌<◌, ◌≤◌, ◌↔◌, List, length, Contains}
use Rattle.std.specs.List.{All}
use Rattle.rela_graph.specs.declared.node.Node.{Node}
use Rattle.rela_graph.specs.declared.node.Link.{Link}
use Rattle.rela_graph.specs.Topology.{Topology, HasEdge, IsStart, IsDelivered, IsDropped, JoinsNodes}

-- the nodes in order, and the places of nodes that the edges join and that the three lists name
pub record Listed : Type 0 where
  pub nodes : List Node
  pub edges : List Link
  pub starts : List ℕ
  pub delivered : List ℕ
  pub dropped : List ℕ

-- at most 10,000 nodes and 100,000 edges, and no place without a node
pub record IsListed (l : Listed) : Type 0 where
  pub few_nodes : length l.nodes ≤ 10000
  pub few_edges : length l.edges ≤ 100000
  pub edges_join : All (JoinsNodes (length l.nodes)) l.edges
  pub starts_exist : All (λ n. n < length l.nodes) l.starts
  pub delivered_exist : All (λ n. n < length l.nodes) l.delivered
  pub dropped_exist : All (λ n. n < length l.nodes) l.dropped

-- the graph that is listed, where repetitions count once
pub record IsGraphOf (l : Listed) (g : Topology) : Type 0 where
  pub nodes : g.nodes ≡ l.nodes
  pub edges : (a b : ℕ) → HasEdge g a b ↔ Contains l.edges (record { a = a; b = b })
  pub starts : (n : ℕ) → IsStart g n ↔ Contains l.starts n
  pub delivered : (n : ℕ) → IsDelivered g n ↔ Contains l.delivered n
  pub dropped : (n : ℕ) → IsDropped g n ↔ Contains l.dropped n
