use Rattle.std.proofs.Common.{◌≡◌, length}
use Rattle.rela_graph.specs.Component.{AreBehind}
use Rattle.rela_graph.proofs.graph.Graph.claim_behind.Given as goal

abbrev pub invariant-loop-place : goal.invariant-loop-place
invariant-loop-place l = record {
  roots : l.claimed.roots ≡ l.roots;
  count : l.claimed.count ≡ length l.self.nodes;
  behind : AreBehind l.self l.claimed;
}
