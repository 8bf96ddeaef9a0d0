use Rattle.std.proofs.Common.{◌≡◌, ◌*◌, ◌≤◌, length}
use Rattle.std.specs.Prelude.{nat_eq}
use Rattle.std.specs.List.{All}
use Rattle.indexmap.specs.IndexSet.{IsUnique}
use Rattle.rela_tables.proofs.PlainLaws.{TablesSoFar}
use Rattle.rela_tables.specs.Distinct.{IsTable, devices_of}
use Rattle.rela_tables.specs.Forwarding.{route_count}
use Rattle.rela_tables.specs.Located.{IsTableIn}
use Rattle.rela_tables.proofs.plain_table.read_tables.Given as goal

abbrev pub invariant-tables : goal.invariant-tables
invariant-tables l = record {
  read : TablesSoFar l.locations l.initial.reader l.tables.items l.reader;
  shorter : length l.reader ≤ length l.initial.reader;
  devices : l.devices.keys ≡ devices_of l.tables.items;
  unique : IsUnique nat_eq l.devices;
  count : l.count ≡ route_count l.tables.items;
  room : l.count ≤ 10000 * length l.devices.keys;
  few : length l.tables.items ≤ 100000;
  each : All IsTable l.tables.items;
  located : All (IsTableIn l.locations) l.tables.items;
}

abbrev pub decreases-tables : goal.decreases-tables
decreases-tables l = length l.reader
