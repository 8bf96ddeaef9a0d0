use Rattle.std.proofs.Common.{◌≡◌, Err, ap, length, arith}
use Rattle.serde_json.specs.View.{view}
use Rattle.rela_tables.specs.Distinct.{IsTable}
use Rattle.rela_tables.specs.Located.{IsTableIn}
use Rattle.rela_tables.proofs.Kept.{All-more, devices_more, count_more, as_many, are_tables, few_more, room_more}
use Rattle.rela_tables.proofs.Loops.{left_next, left_none}
use Rattle.rela_tables.proofs.WalkLaws.{table_ends, table_goes_on, all_tables}
use Rattle.rela_tables.proofs.table.read_tables.Goals as goal

pub returns-in_err-table-clause-fault : goal.returns-in_err-table-clause-fault
returns-in_err-table-clause-fault c =
    let is : c.from_residual.result ≡ Err c.in_err-table.field-0.0 = grind arith in
    let next = left_next view c.args.values.now c.loop-value.value-index c.value-item.result c.loop-value-test.true c.value-item.is in
    rw is (λ no. table_ends _ _ _ _ _ _ _ _ _ next c.loop-value.invariant.devices c.loop-value.invariant.count (c.in_err-table.ensures.fault no) c.loop-value.invariant.read)

pub loop-value-preserved : goal.loop-value-preserved
loop-value-preserved c =
    let next = left_next view c.args.values.now c.loop-value.value-index c.value-item.result c.loop-value-test.true c.value-item.is in
    record {
      read = table_goes_on _ _ _ _ _ _ _ _ _ _ next c.loop-value.invariant.devices c.loop-value.invariant.count c.in_ok-push.ensures.items c.in_ok-table.ensures.table c.loop-value.invariant.read;
      devices = devices_more _ _ _ _ _ c.loop-value.invariant.devices c.in_ok-table.ensures.devices c.in_ok-push.ensures.items;
      unique = c.in_ok-table.ensures.unique;
      count = count_more _ _ _ _ _ c.loop-value.invariant.count (ap length c.as_slice.ensures) c.in_ok-push.ensures.items;
      room = room_more _ _ _ _ _ c.in_ok-table.table c.loop-value.invariant.room c.in_ok-table.ensures.devices (ap length c.as_slice.ensures) c.in_ok-table.ensures.distinct;
      few = few_more _ _ _ _ _ (as_many _ _ c.loop-value.invariant.devices) c.in_ok-table.ensures.few c.in_ok-push.ensures.items;
      each = All-more IsTable _ _ _ c.in_ok-push.ensures.items c.loop-value.invariant.each c.in_ok-table.ensures.distinct;
      located = All-more (IsTableIn c.args.locations.now) _ _ _ c.in_ok-push.ensures.items c.loop-value.invariant.located c.in_ok-table.ensures.located;
    }

pub returns-clause-tables : goal.returns-clause-tables
returns-clause-tables c = all_tables _ _ _ _ (left_none view c.args.values.now c.loop-value.value-index c.loop-value-test.false) c.loop-value.invariant.read

pub returns-clause-distinct : goal.returns-clause-distinct
returns-clause-distinct c = are_tables _ _ c.loop-value.invariant.devices c.loop-value.invariant.unique c.loop-value.invariant.few c.loop-value.invariant.each
