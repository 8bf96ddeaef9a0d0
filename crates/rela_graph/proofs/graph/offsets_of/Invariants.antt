use Rattle.std.proofs.Common.{◌≡◌, ℕ, ◌<◌, ◌≤◌, length, get_or}
use Rattle.std.specs.List.{AllWithin}
use Rattle.std.specs.List.Sorted.{IsPartitionPoint}
use Rattle.rela_graph.proofs.graph.offsets_of.Given as goal

-- the offsets so far, and how many edges come from nodes before the next
abbrev pub invariant-loop-n : goal.invariant-loop-n
invariant-loop-n l = record {
  len : length l.offsets.items ≡ l.n;
  within : (m : ℕ) → m < l.n → get_or l.offsets.items m 0 ≤ length l.edges;
  parted : (m : ℕ) → m < l.n → IsPartitionPoint (λ link. link.a < m) (λ link. m ≤ link.a) l.edges (get_or l.offsets.items m 0);
  some : l.before ≤ length l.edges;
  before : AllWithin (λ link. link.a < l.n) l.edges 0 l.before;
}
