use Rattle.rela_snapshot.proofs.PartnerLaws.{table_step, table_room}
use Rattle.rela_snapshot.proofs.pairing.names_of.Goals as goal

pub add-requires : goal.add-requires
add-requires c = table_room _ c.args.flows.now c.loop-flow.flow-index c.loop-flow.invariant c.loop-flow-test.true c.requires.few

pub loop-flow-preserved : goal.loop-flow-preserved
loop-flow-preserved c =
    table_step _ _ c.args.flows.now c.loop-flow.flow-index c.flow-item.result _ c.requires.distinct c.loop-flow.invariant c.loop-flow-test.true c.flow-item.is c.as_bytes.ensures.bytes c.in_ok-_is_new.ensures.names
