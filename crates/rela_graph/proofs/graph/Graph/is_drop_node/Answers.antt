use Rattle.std.proofs.Common.{◌≡◌, ◌<◌, length, rules}
use Rattle.std.proofs.lemmas.Bool.{both_ways}
use Rattle.rela_graph.specs.Topology.{IsDropped}
use Rattle.rela_graph.proofs.Ending.{drops_at_end, goes_on}
use Rattle.rela_graph.proofs.graph.Graph.is_drop_node.Goals as goal

pub returns-then-is_empty : goal.returns-then-is_empty
returns-then-is_empty c =
    let unlisted : ¬ IsDropped c.args.self.now c.args.n = λ h. both_ways _ c.if-is_dropped.false (c.is_dropped.ensures.dropped.1 h) in
    let none : length c.edges_from.result.now ≡ 0 = search rules in
    drops_at_end c.args.self.now c.args.n c.edges_from.result.now unlisted c.edges_from.ensures.all none c.is_delivered.result c.is_delivered.ensures.delivered

pub returns-else-is_empty : goal.returns-else-is_empty
returns-else-is_empty c = (
  λ t. absurd (both_ways _ c.if-is_empty.false t),
  λ h. absurd
      (let unlisted : ¬ IsDropped c.args.self.now c.args.n = λ h. both_ways _ c.if-is_dropped.false (c.is_dropped.ensures.dropped.1 h) in
      let some : 0 < length c.edges_from.result.now = search rules in
      goes_on c.args.self.now c.args.n c.edges_from.result.now unlisted c.edges_from.ensures.each some h),
)
