-- Flows that are one but for the names of locations.
use Rattle.std.specs.Prelude.{◌≡◌, ℕ, ◌<◌, ◌↔◌, List, length, map, slice_index}
use Rattle.rela_names.specs.declared.level.Level.{Level}
use Rattle.rela_labels.specs.Partition.{block_of}
use Rattle.rela_graph.specs.Topology.{Topology}
use Rattle.rela_snapshot.specs.declared.pairing.FlowPair.{FlowPair}
use Rattle.rela_shape.specs.Shape.{places_of}

-- the two graphs differ at most in their nodes, of which they have as many
pub record AreWiredAlike (g h : Topology) : Type 0 where
  pub nodes : length g.nodes ≡ length h.nodes
  pub edges : g.edges ≡ h.edges
  pub starts : g.starts ≡ h.starts
  pub delivered : g.delivered ≡ h.delivered
  pub dropped : g.dropped ≡ h.dropped

-- The two flows are one but for the names of locations: nodes of one stand at one location just where those of
-- the other do, and at locations of the same blocks.
pub record AreRenamed (blocks : List ℕ) (level : Level) (pair other : FlowPair) : Type 0 where
  pub before : AreWiredAlike pair.before other.before
  pub after : AreWiredAlike pair.after other.after
  pub together : (i j : ℕ) → i < length (places_of level pair) → j < length (places_of level pair) →
      (slice_index (places_of level pair) i ≡ slice_index (places_of level pair) j)
      ↔ (slice_index (places_of level other) i ≡ slice_index (places_of level other) j)
  pub blocks_are : map (block_of blocks) (places_of level pair)
      ≡ map (block_of blocks) (places_of level other)
