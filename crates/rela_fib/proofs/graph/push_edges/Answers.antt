use Rattle.rela_fib.proofs.Arrays.{edge_more}
use Rattle.rela_fib.proofs.graph.push_edges.Goals as goal

pub loop-place-preserved : goal.loop-place-preserved
loop-place-preserved c = edge_more c.args.to.now c.loop-place.place-index c.args.from c.args.text.now.items c.loop-place.text.items c.push_opening.new.text.items c.push_closing.new.text.items c.loop-place-test.true c.loop-place.invariant c.in_ok-push_opening.ensures c.in_ok-push_closing.ensures
