use Rattle.std.proofs.Common.{◌≡◌, ◌≤◌, ◌-◌, [], map, replicate, vec_len}
use Rattle.rela_locations.proofs.containment.empty_lists.Given as goal

abbrev pub invariant-loop-alloc : goal.invariant-loop-alloc
invariant-loop-alloc l = record {
  few : vec_len l.lists ≤ l.n;
  empty : map (λ list. list.items) l.lists.items ≡ replicate (vec_len l.lists) [];
}

abbrev pub decreases-loop-alloc : goal.decreases-loop-alloc
decreases-loop-alloc l = l.n - vec_len l.lists
