use Rattle.std.proofs.Common.{◌≤◌, arith, length}
use Rattle.rela_tables.proofs.PlainLaws.{table_read}
use Rattle.rela_tables.proofs.plain_table.read_table.Goals as goal

pub returns-clause-table : goal.returns-clause-table
returns-clause-table c =
    let few : length c.in_ok-routes.routes.items ≤ 10000 = omega (arith, c.in_ok-routes.ensures.few, c.in_ok-routes.routes.ok.0) in
    rw c.from_vec.ensures (table_read _ _ _ _ _ _ _ _ _ _ c.what_holds.ensures.object c.in_ok-device.ensures.few c.in_ok-device.ensures.device c.in_ok-device.ensures.new few c.in_ok-name.ensures c.in_ok-routes.ensures.routes c.in_ok-close_object.ensures.brace)
