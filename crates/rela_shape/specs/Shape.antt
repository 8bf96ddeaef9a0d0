-- The shape of a flow at a level: what its two graphs are there but for the names of the locations.
use Rattle.std.specs.Prelude.{◌≡◌, ℕ, ◌<◌, ◌↔◌, ◌++◌, ◌&&◌, Bool, List, length, map, nat_eq, slice_index}
use Rattle.std.specs.Cmp.Lexicographic.{pointwise}
use Rattle.rela_names.specs.declared.level.Level.{Level}
use Rattle.rela_labels.specs.Partition.{block_of}
use Rattle.rela_graph.specs.Paths.{locations}
use Rattle.rela_graph.specs.Topology.{IsTopology}
use Rattle.rela_snapshot.specs.declared.pairing.FlowPair.{FlowPair}
use Rattle.rela_shape.specs.declared.shape.Shape.{Shape}
use Rattle.rela_shape.specs.Wiring.{wiring_of}

-- the locations of the nodes of both graphs at the level, the graph before the change first
abbrev pub places_of : Level → FlowPair → List ℕ
places_of level pair = locations pair.before level ++ locations pair.after level

-- one number for each place: two have one number just where they are one location, and each number below
-- that of a place is that of an earlier one
pub record AreNumbered (places numbers : List ℕ) : Type 0 where
  pub each : length numbers ≡ length places
  pub together : (i j : ℕ) → i < length places → j < length places →
      (slice_index numbers i ≡ slice_index numbers j) ↔ (slice_index places i ≡ slice_index places j)
  pub by_first : (i n : ℕ) → i < length places → n < slice_index numbers i →
      (j : ℕ) × (j < i) × (slice_index numbers j ≡ n)

-- the shape of the flow at the level, where the blocks are those of the symbols
pub record IsShape (blocks : List ℕ) (level : Level) (pair : FlowPair) (shape : Shape) : Type 0 where
  pub numbers : AreNumbered (places_of level pair) shape.numbers.items
  pub blocks_of : shape.blocks.items ≡ map (block_of blocks) (places_of level pair)
  pub before : shape.before.items ≡ wiring_of pair.before
  pub after : shape.after.items ≡ wiring_of pair.after
  pub topology_before : IsTopology pair.before
  pub topology_after : IsTopology pair.after

-- whether two shapes are equal
abbrev pub same_shape : Shape → Shape → Bool
same_shape x y =
    pointwise nat_eq x.numbers.items y.numbers.items
    && (pointwise nat_eq x.blocks.items y.blocks.items
    && (pointwise nat_eq x.before.items y.before.items
    && pointwise nat_eq x.after.items y.after.items))
