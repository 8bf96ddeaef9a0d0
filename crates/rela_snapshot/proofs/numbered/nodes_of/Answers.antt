use Rattle.std.proofs.Common.{◌∙◌, ap, ◌+◌}
use Rattle.serde_json.specs.View.{view}
use Rattle.rela_snapshot.specs.Located.{StandsIn}
use Rattle.rela_snapshot.specs.Numbered.{node_of}
use Rattle.rela_snapshot.proofs.FlowLaws.{left_next}
use Rattle.rela_snapshot.proofs.Kept.{All-push}
use Rattle.rela_snapshot.proofs.Loops.{collect_more}
use Rattle.rela_snapshot.proofs.numbered.nodes_of.Goals as goal

pub loop-value-preserved : goal.loop-value-preserved
loop-value-preserved c =
    let next = left_next view c.args.values.now c.loop-value.value-index c.value-item.result c.loop-value-test.true c.value-item.is in
    record {
      nodes = collect_more (node_of c.args.locations.now c.args.row) _ _ _ _ _ _ _ next c.in_ok-node.ensures.node c.in_ok-push.ensures.items c.loop-value.invariant.nodes;
      len = c.in_ok-push.ensures.len ∙ ap (λ n. n + 1) c.loop-value.invariant.len;
      located = All-push (StandsIn c.args.locations.now) _ _ _ c.in_ok-push.ensures.items c.loop-value.invariant.located c.in_ok-node.ensures.located;
    }
