-- How edges are found by the node that they come from.
use Rattle.std.specs.Prelude.{◌≡◌, ℕ, ◌+◌, ◌<◌, ◌≤◌, List, length, slice_index}
use Rattle.std.specs.List.Sorted.{IsPartitionPoint}
use Rattle.std.specs.declared.cmp.Ordering.{Ordering}
use Rattle.std.specs.Ordering.{nat_cmp, ordering_then}
use Rattle.rela_graph.specs.declared.node.Link.{Link}

-- the order by the first node and then by the second
abbrev pub link_cmp : Link → Link → Ordering
link_cmp x y = ordering_then (nat_cmp x.a y.a) (nat_cmp x.b y.b)

-- for each n up to the number of nodes, the offset of n is the place where the edges from nodes before n
-- end and those from n on begin
pub record IsIndexed (count : ℕ) (edges : List Link) (offsets : List ℕ) : Type 0 where
  pub len : length offsets ≡ count + 1
  pub within : (n : ℕ) → n ≤ count → slice_index offsets n ≤ length edges
  pub parted : (n : ℕ) → n ≤ count → IsPartitionPoint (λ link. link.a < n) (λ link. n
      ≤ link.a) edges (slice_index offsets n)
