use Rattle.std.proofs.Common.{◌≡◌, ℕ, ◌<◌, ◌↔◌, length}
use Rattle.rela_graph.specs.Topology.{HasFlag}
use Rattle.rela_graph.specs.Walk.{IsCyclic}
use Rattle.rela_graph.proofs.graph.Graph.cyclic_by_components.Given as goal

-- the flags so far
abbrev pub invariant-loop-n : goal.invariant-loop-n
invariant-loop-n l = record {
  len : length l.cyclic.items ≡ l.n;
  flags : (m : ℕ) → m < l.n → HasFlag l.cyclic.items m ↔ IsCyclic l.self m;
}
