use Rattle.std.proofs.Common.{◌∙◌, ap, ◌+◌}
use Rattle.rela_graph.specs.Topology.{JoinsNodes}
use Rattle.serde_json.specs.View.{view}
use Rattle.rela_snapshot.specs.Numbered.{edge_of}
use Rattle.rela_snapshot.proofs.FlowLaws.{left_next}
use Rattle.rela_snapshot.proofs.Kept.{All-push}
use Rattle.rela_snapshot.proofs.Loops.{collect_more}
use Rattle.rela_snapshot.proofs.numbered.edges_of.Goals as goal

pub loop-value-preserved : goal.loop-value-preserved
loop-value-preserved c =
    let next = left_next view c.args.values.now c.loop-value.value-index c.value-item.result c.loop-value-test.true c.value-item.is in
    record {
      edges = collect_more (edge_of c.args.count c.args.row) _ _ _ _ _ _ _ next c.in_ok-edge.ensures.edge c.in_ok-push.ensures.items c.loop-value.invariant.edges;
      len = c.in_ok-push.ensures.len ∙ ap (λ n. n + 1) c.loop-value.invariant.len;
      join = All-push (JoinsNodes c.args.count) _ _ _ c.in_ok-push.ensures.items c.loop-value.invariant.join c.in_ok-edge.ensures.joins;
    }
