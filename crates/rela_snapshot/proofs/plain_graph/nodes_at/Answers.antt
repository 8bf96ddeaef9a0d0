use Rattle.std.proofs.Common.{◌∙◌, ap, ◌+◌, map}
use Rattle.std.proofs.lemmas.List.{drop_more}
use Rattle.rela_tokens.specs.Pieces.{text}
use Rattle.rela_snapshot.specs.Located.{StandsIn}
use Rattle.rela_snapshot.specs.Numbered.{node_of}
use Rattle.rela_snapshot.proofs.Kept.{All-push}
use Rattle.rela_snapshot.proofs.Loops.{collect_more}
use Rattle.rela_snapshot.proofs.PlainLaws.{node_taken}
use Rattle.rela_snapshot.proofs.plain_graph.nodes_at.Goals as goal

pub loop-name-preserved : goal.loop-name-preserved
loop-name-preserved c =
    let names = c.args.names.now in
    let i = c.loop-name.name-index in
    let one = c.as_bytes.result in
    let next = ap (map text) (drop_more names i one c.loop-name-test.true) in
    let node = node_taken c.args.locations.now c.args.row names i one _ c.as_bytes.result.now _ c.loop-name-test.true c.as_bytes.ensures.value c.in_ok-node.ensures.node in
    record {
      nodes = collect_more (node_of c.args.locations.now c.args.row) _ _ _ _ _ _ _ next node c.in_ok-push.ensures.items c.loop-name.invariant.nodes;
      len = c.in_ok-push.ensures.len ∙ ap (λ n. n + 1) c.loop-name.invariant.len;
      located = All-push (StandsIn c.args.locations.now) _ _ _ c.in_ok-push.ensures.items c.loop-name.invariant.located c.in_ok-node.ensures.located;
    }
