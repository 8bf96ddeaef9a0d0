use Rattle.std.proofs.Common.{◌∙◌, ap, ◌+◌, get_or, map}
use Rattle.std.proofs.lemmas.List.{drop_more}
use Rattle.rela_graph.specs.Topology.{JoinsNodes}
use Rattle.rela_tokens.specs.Pieces.{pair}
use Rattle.rela_snapshot.specs.Numbered.{edge_of}
use Rattle.rela_snapshot.proofs.Kept.{All-push}
use Rattle.rela_snapshot.proofs.Loops.{collect_more}
use Rattle.rela_snapshot.proofs.PlainLaws.{edge_read}
use Rattle.rela_snapshot.proofs.plain_graph.links_of.Goals as goal

pub loop-a-preserved : goal.loop-a-preserved
loop-a-preserved c =
    let ps = c.args.pairs.now in
    let i = c.loop-a.a-index in
    let next = ap (map pair) (drop_more ps i (0, 0) c.loop-a-test.true) in
    let edge = c.in_ok-edge.ensures in
    record {
      edges = collect_more (edge_of c.args.count c.args.row) _ _ _ _ _ _ _ next (edge_read c.args.count c.args.row (get_or ps i (0, 0)).0 (get_or ps i (0, 0)).1 _ edge.ends.0 edge.ends.1 edge.joins) c.in_ok-push.ensures.items c.loop-a.invariant.edges;
      len = c.in_ok-push.ensures.len ∙ ap (λ n. n + 1) c.loop-a.invariant.len;
      join = All-push (JoinsNodes c.args.count) _ _ _ c.in_ok-push.ensures.items c.loop-a.invariant.join edge.joins;
    }
