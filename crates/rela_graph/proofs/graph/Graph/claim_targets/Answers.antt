use Rattle.std.proofs.Common.{◌<◌, length, get_or, arith}
use Rattle.std.specs.Prelude.{slice_index}
use Rattle.rela_graph.specs.Component.{Reaches}
use Rattle.rela_graph.specs.declared.node.Link.{Link}
use Rattle.rela_graph.proofs.Claiming.{frame_then, claim_ahead, reach_on}
use Rattle.rela_graph.proofs.graph.Graph.claim_targets.Goals as goal
use Rattle.rela_graph.proofs.graph.Graph.claim_targets.Goals.{then-components-edge+in_ok-claim, else-components-edge}

pub loop-edge-preserved : goal.loop-edge-preserved
loop-edge-preserved c =
    let g = c.args.self.now in
    let start = c.args.claimed.now in
    let now = c.loop-edge.claimed in
    let link : Link = get_or c.edges_from-edge-items.result.now c.loop-edge.edge-index (record { a = 0; b = 0 }) in
    let edge = c.edges_from-edge-items.ensures.each c.loop-edge.edge-index (record { a = 0; b = 0 }) c.loop-edge-test.true in
    let root = get_or c.places.result.now c.args.n 0 in
    let frame = c.loop-edge.invariant.frame in
    let from : Reaches g (slice_index now.roots root) c.args.n = rw (frame.roots, c.places.ensures.places) (c.requires.ahead c.args.n c.requires.member) in
    let within : link.b < length now.places =
    let len = c.places.ensures.len in let count = c.requires.count in let same = frame.len in let below = edge.1 in omega arith in
    elim c.if-components-edge.branch [
      | then-components-edge+in_ok-claim w ↦ record {
        frame = rw w.claimed-is (frame_then start now w.claim.new.self frame w.claim.ensures.frame);
        ahead = rw w.claimed-is
            (claim_ahead now w.claim.new.self link.b root within w.claim.ensures.frame w.in_ok-claim.ensures.claims g c.loop-edge.invariant.ahead
            (reach_on g (slice_index now.roots root) c.args.n link.b from edge.2));
      }
      | else-components-edge w ↦ record { frame = rw w.claimed-is frame; ahead = rw w.claimed-is c.loop-edge.invariant.ahead }
    ]
