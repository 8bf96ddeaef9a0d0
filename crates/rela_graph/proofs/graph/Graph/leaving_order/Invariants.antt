use Rattle.std.proofs.Common.{◌≡◌, ◌<◌, length}
use Rattle.std.specs.List.{All}
use Rattle.rela_graph.specs.Visit.{node_of, work_left}
use Rattle.rela_graph.proofs.graph.Graph.leaving_order.Given as goal

-- all is about nodes
abbrev pub invariant-loop-visit : goal.invariant-loop-visit
invariant-loop-visit l = record {
  count : l.entered.count ≡ length l.self.nodes;
  visits : All (λ visit. node_of visit < length l.self.nodes) l.visits.items;
  order : All (λ n. n < length l.self.nodes) l.order.items;
}

abbrev pub decreases-loop-visit : goal.decreases-loop-visit
decreases-loop-visit l = work_left l.self l.entered l.visits.items
