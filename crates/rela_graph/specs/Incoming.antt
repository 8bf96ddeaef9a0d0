-- How the edges into a node are found.
use Rattle.std.specs.Prelude.{◌≡◌, ℕ, ◌<◌, List, length, Option, None, Some, slice_index_or}
use Rattle.rela_graph.specs.declared.node.Link.{Link}

-- last tells of each node the place of an edge into it, and before tells of each edge the place of an
-- earlier edge into the same node
pub record IsChained (count : ℕ) (edges : List Link) (last before : List (Option ℕ)) : Type 0 where
  pub nodes : length last ≡ count
  pub edges_len : length before ≡ length edges
  pub into : (n k : ℕ) (d : Link) → slice_index_or last n None ≡ Some k → (k < length edges)
      × ((slice_index_or edges k d).b ≡ n)
  pub earlier : (j k : ℕ) (d : Link) → j < length edges → slice_index_or before j None ≡ Some k →
      (k < j) × ((slice_index_or edges k d).b ≡ (slice_index_or edges j d).b)
