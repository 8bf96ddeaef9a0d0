use Rattle.rela_fib.proofs.Indexing.{device_pushed}
use Rattle.rela_fib.proofs.devices.devices_of.Goals as goal

pub loop-table-preserved : goal.loop-table-preserved
loop-table-preserved c = device_pushed c.args.tables.now c.loop-table.table-index c.table-item.result _ _ c.requires c.loop-table-test.true c.table-item.is c.loop-table.invariant c.in_ok-insert.ensures.keys
