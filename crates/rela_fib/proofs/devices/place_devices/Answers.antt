use Rattle.std.proofs.Common.{arith}
use Rattle.std.proofs.lemmas.Option.{slice_get_within}
use Rattle.rela_fib.proofs.Steps.{keys_grow, placed_more}
use Rattle.rela_fib.proofs.devices.place_devices.Goals as goal

pub overflow_cast-place : goal.overflow_cast-place
overflow_cast-place c =
    let stored = c.in_ok-place.ensures.stored in
    omega (arith, slice_get_within c.insert_full.new.self.keys c.in_ok-place.place stored.0 stored.1, keys_grow c.loop-node.names.keys c.insert_full.new.self.keys c.lift.result c.in_ok-place.ensures.keys, c.loop-node.invariant.1, c.loop-node-test.true, c.requires.few)

pub loop-node-preserved : goal.loop-node-preserved
loop-node-preserved c = (
  placed_more c.args.locations.now c.args.nodes.now c.loop-node.node-index c.lift.result c.in_ok-place.place c.loop-node.names.keys c.insert_full.new.self.keys c.loop-node.of_nodes.items _ c.loop-node-test.true c.lift.ensures.lifted c.in_ok-place.ensures.keys c.in_ok-place.ensures.stored c.in_ok-push.ensures.items c.loop-node.invariant.0,
  omega (arith, keys_grow c.loop-node.names.keys c.insert_full.new.self.keys c.lift.result c.in_ok-place.ensures.keys, c.loop-node.invariant.1),
)
