use Rattle.std.proofs.Common.{◌≡◌, ◌≤◌, Some, ap, arith, length}
use Rattle.json.specs.Json.{after_end_array}
use Rattle.rela_tables.specs.Distinct.{IsTable}
use Rattle.rela_tables.specs.Located.{IsTableIn}
use Rattle.rela_tables.proofs.Kept.{All-more, are_tables, as_many, count_more, devices_more, few_more, room_more}
use Rattle.rela_tables.proofs.PlainLaws.{all_plain_tables, next_table}
use Rattle.rela_tables.proofs.plain_table.read_tables.Goals as goal

pub tables-preserved : goal.tables-preserved
tables-preserved c =
    let l = c.tables in
    let same : c.take_end_array.new.self ≡ l.reader = grind arith in
    let known : length l.reader ≤ length c.args.reader.now = l.invariant.shorter in
    record {
      read = next_table _ _ _ _ _ _ _ _ _ _ same l.invariant.devices l.invariant.count c.in_ok-push.ensures.items l.invariant.read c.in_ok-table.ensures.table;
      shorter = grind (arith, known);
      devices = devices_more _ _ _ _ _ l.invariant.devices c.in_ok-table.ensures.devices c.in_ok-push.ensures.items;
      unique = c.in_ok-table.ensures.unique;
      count = count_more _ _ _ _ _ l.invariant.count (ap length c.as_slice.ensures) c.in_ok-push.ensures.items;
      room = room_more _ _ _ _ _ c.in_ok-table.table l.invariant.room c.in_ok-table.ensures.devices (ap length c.as_slice.ensures) c.in_ok-table.ensures.distinct;
      few = few_more _ _ _ _ _ (as_many _ _ l.invariant.devices) c.in_ok-table.ensures.few c.in_ok-push.ensures.items;
      each = All-more IsTable _ _ _ c.in_ok-push.ensures.items l.invariant.each c.in_ok-table.ensures.distinct;
      located = All-more (IsTableIn c.args.locations.now) _ _ _ c.in_ok-push.ensures.items l.invariant.located c.in_ok-table.ensures.located;
    }

pub returns-clause-tables : goal.returns-clause-tables
returns-clause-tables c =
    let closed : after_end_array c.tables.reader ≡ Some c.take_end_array.new.self = grind arith in
    all_plain_tables _ _ _ _ _ c.what_holds.ensures.array c.tables.invariant.read closed

pub returns-clause-distinct : goal.returns-clause-distinct
returns-clause-distinct c = are_tables _ _ c.tables.invariant.devices c.tables.invariant.unique c.tables.invariant.few c.tables.invariant.each
