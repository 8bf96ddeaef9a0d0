use Rattle.std.proofs.Common.{length, ◌∙◌}
use Rattle.rela_engine.proofs.NodesApart.{gathered, gathered_below, placed_below, finer_result}
use Rattle.rela_engine.proofs.finer_blocks.finer_blocks.Goals as goal

pub with_alone-requires : goal.with_alone-requires
with_alone-requires c =
    let whole = gathered c.args.level c.new-symbols.result.items c.push_locations.new.locations.items c.as_slice.result.now c.nodes.result.now c.nodes-2.result.now c.args.before.now.nodes c.args.after.now.nodes
    c.new-symbols.ensures.items c.nodes.ensures.nodes c.nodes-2.ensures.nodes c.in_ok-push_locations.ensures (c.as_slice.ensures.value ∙ c.in_ok-push_locations-2.ensures) in
    gathered_below c.args.level (length c.args.blocks.now) c.as_slice.result.now c.args.before.now.nodes c.args.after.now.nodes whole
    (placed_below c.args.level c.args.locations (length c.args.blocks.now) c.args.before.now.nodes c.requires.symbols c.requires.before)
    (placed_below c.args.level c.args.locations (length c.args.blocks.now) c.args.after.now.nodes c.requires.symbols c.requires.after)

pub returns : goal.returns
returns c =
    let whole = gathered c.args.level c.new-symbols.result.items c.push_locations.new.locations.items c.as_slice.result.now c.nodes.result.now c.nodes-2.result.now c.args.before.now.nodes c.args.after.now.nodes
    c.new-symbols.ensures.items c.nodes.ensures.nodes c.nodes-2.ensures.nodes c.in_ok-push_locations.ensures (c.as_slice.ensures.value ∙ c.in_ok-push_locations-2.ensures) in
    finer_result c.args.blocks.now c.args.locations c.args.level c.args.before.now c.args.after.now c.with_alone.result c.as_slice.result.now whole
    c.with_alone.ensures.symbols c.with_alone.ensures.partition c.with_alone.ensures.together c.requires.symbols c.requires.before c.requires.after c.requires.drops c.requires.loops
