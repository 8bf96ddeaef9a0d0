use Rattle.std.proofs.Common.{arith}
use Rattle.rela_graph.proofs.Outlines.{fed_places}
use Rattle.rela_graph.proofs.outline.feed_places.Goals as goal

pub returns : goal.returns
returns g c =
    fed_places g.H.Hasher.write c.args.level c.args.nodes.now c.args.state.now c.write_usize.new.self c.loop-node.state c.loop-node.node-index
    (let over = c.loop-node-test.false in omega arith) c.write_usize.ensures c.loop-node.invariant
