use Rattle.std.proofs.Common.{◌≡◌, ◌<◌, ℕ, length, get_or, Some}
use Rattle.rela_graph.specs.Component.{SameFrame, AreBehind}
use Rattle.rela_graph.specs.declared.node.Link.{Link}
use Rattle.rela_graph.proofs.Chaining.{left_of_chain}
use Rattle.rela_graph.proofs.graph.Graph.claim_sources.Given as goal

-- what leads to n by the edges so far is claimed
abbrev pub invariant-loop-at : goal.invariant-loop-at
invariant-loop-at l = record {
  frame : SameFrame l.fn.claimed l.claimed;
  behind : AreBehind l.self l.claimed;
  into : (k : ℕ) (d : Link) → l.at ≡ Some k → (k < length l.self.edges) × ((get_or l.self.edges k d).b ≡ l.n);
}

abbrev pub decreases-loop-at : goal.decreases-loop-at
decreases-loop-at l = left_of_chain l.at
