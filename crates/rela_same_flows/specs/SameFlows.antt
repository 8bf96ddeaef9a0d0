-- Flows that no file can tell apart: they have one class and one graph, however its edges are listed.
use Rattle.std.specs.Prelude.{◌≡◌, ℕ, ◌↔◌, List}
use Rattle.std.specs.List.{AllZip}
use Rattle.rela_graph.specs.Topology.{Topology, HasEdge, IsStart, IsDelivered, IsDropped}
use Rattle.rela_snapshot.specs.declared.pairing.FlowPair.{FlowPair}
use Rattle.rela_snapshot.specs.declared.snapshot.Flow.{Flow}

pub record SameGraph (g h : Topology) : Type 0 where
  pub nodes : g.nodes ≡ h.nodes
  pub edges : (a b : ℕ) → HasEdge g a b ↔ HasEdge h a b
  pub starts : (n : ℕ) → IsStart g n ↔ IsStart h n
  pub delivered : (n : ℕ) → IsDelivered g n ↔ IsDelivered h n
  pub dropped : (n : ℕ) → IsDropped g n ↔ IsDropped h n

pub record SameFlow (f g : Flow) : Type 0 where
  pub class : f.class ≡ g.class
  pub graph : SameGraph f.graph g.graph

abbrev pub SameFlows : List Flow → List Flow → Type 0
SameFlows = AllZip SameFlow

pub record SamePair (p q : FlowPair) : Type 0 where
  pub class : p.class ≡ q.class
  pub before : SameGraph p.before q.before
  pub after : SameGraph p.after q.after

abbrev pub SamePairs : List FlowPair → List FlowPair → Type 0
SamePairs = AllZip SamePair
