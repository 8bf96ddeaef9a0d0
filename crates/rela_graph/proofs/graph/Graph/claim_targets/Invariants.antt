use Rattle.rela_graph.specs.Component.{SameFrame, AreAhead}
use Rattle.rela_graph.proofs.graph.Graph.claim_targets.Given as goal

-- what is claimed is reached
abbrev pub invariant-loop-edge : goal.invariant-loop-edge
invariant-loop-edge l = record {
  frame : SameFrame l.fn.claimed l.claimed;
  ahead : AreAhead l.self l.claimed;
}
