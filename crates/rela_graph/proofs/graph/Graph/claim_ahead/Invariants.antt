use Rattle.std.proofs.Common.{◌≡◌, length}
use Rattle.rela_graph.specs.Component.{AreAhead}
use Rattle.rela_graph.proofs.graph.Graph.claim_ahead.Given as goal

abbrev pub invariant-loop-place : goal.invariant-loop-place
invariant-loop-place l = record {
  roots : l.claimed.roots ≡ l.roots;
  count : l.claimed.count ≡ length l.self.nodes;
  ahead : AreAhead l.self l.claimed;
}
