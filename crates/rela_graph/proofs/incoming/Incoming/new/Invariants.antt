use Rattle.std.proofs.Common.{◌≡◌, length}
use Rattle.rela_graph.proofs.Chaining.{ChainedSoFar}
use Rattle.rela_graph.proofs.incoming.Incoming.new.Given as goal

abbrev pub invariant-loop-place : goal.invariant-loop-place
invariant-loop-place l = record {
  nodes : length l.last.items ≡ l.count;
  edges_len : length l.before.items ≡ l.place;
  chained : ChainedSoFar l.edges l.place l.last.items l.before.items;
}
