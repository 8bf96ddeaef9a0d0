use Rattle.std.proofs.Common.{◌≡◌, []}
use Rattle.rela_graph.proofs.Unrolling.{SoFar}
use Rattle.rela_graph.proofs.graph.Graph.edge_lists.Given as goal

-- the lists so far
abbrev pub invariant-loop-n : goal.invariant-loop-n
invariant-loop-n g l = (l.leaving.items ≡ []) × SoFar l.self l.letters l.edges l.n
