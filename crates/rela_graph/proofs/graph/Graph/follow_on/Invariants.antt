use Rattle.std.proofs.Common.{◌-◌}
use Rattle.rela_graph.specs.Component.{SameFrame, AreAhead}
use Rattle.rela_graph.proofs.graph.Graph.follow_on.Given as goal

abbrev pub invariant-loop-next : goal.invariant-loop-next
invariant-loop-next l = record {
  frame : SameFrame l.fn.claimed l.claimed;
  ahead : AreAhead l.self l.claimed;
}

abbrev pub decreases-loop-next : goal.decreases-loop-next
decreases-loop-next l = l.claimed.count - l.next
