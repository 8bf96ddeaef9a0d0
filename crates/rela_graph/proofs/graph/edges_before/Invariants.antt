use Rattle.std.proofs.Common.{◌-◌, ◌<◌, ◌≤◌, length}
use Rattle.std.specs.List.{AllWithin}
use Rattle.rela_graph.proofs.graph.edges_before.Given as goal

-- the first edges come from nodes before n
abbrev pub invariant-edges : goal.invariant-edges
invariant-edges l = record {
  within : l.before ≤ length l.edges;
  each : AllWithin (λ link. link.a < l.n) l.edges 0 l.before;
}

abbrev pub decreases-edges : goal.decreases-edges
decreases-edges l = length l.edges - l.before
