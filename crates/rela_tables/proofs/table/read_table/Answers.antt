use Rattle.std.proofs.Common.{◌≡◌, Err, arith}
use Rattle.rela_tables.proofs.WalkLaws.{table_no_head, table_no_routes, table_whole}
use Rattle.rela_tables.proofs.table.read_table.Goals as goal

pub returns-in_err-device-clause-fault : goal.returns-in_err-device-clause-fault
returns-in_err-device-clause-fault c =
    let is : c.from_residual.result ≡ Err c.in_err-device.field-0.0 = grind arith in
    rw is (λ no. table_no_head _ _ _ _ _ (c.in_err-device.ensures.fault no))

pub returns-in_err-routes-clause-fault : goal.returns-in_err-routes-clause-fault
returns-in_err-routes-clause-fault c =
    let is : c.from_residual-in_err-routes.result ≡ Err c.in_err-routes.field-0.0 = grind arith in
    rw is (λ no. table_no_routes _ _ _ _ _ _ _ c.in_ok-device.ensures.head (c.in_err-routes.ensures.fault no))

pub returns-clause-table : goal.returns-clause-table
returns-clause-table c = rw c.from_vec.ensures (table_whole _ _ _ _ _ _ _ c.in_ok-device.ensures.head c.in_ok-routes.ensures.routes)
