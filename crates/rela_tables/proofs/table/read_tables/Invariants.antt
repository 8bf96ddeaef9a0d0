use Rattle.std.proofs.Common.{◌≡◌, ◌*◌, ◌≤◌, drop, length, map}
use Rattle.std.specs.Prelude.{nat_eq}
use Rattle.std.specs.List.{All}
use Rattle.indexmap.specs.IndexSet.{IsUnique}
use Rattle.serde_json.specs.View.{view}
use Rattle.rela_tables.proofs.WalkLaws.{AreTablesSo}
use Rattle.rela_tables.specs.Distinct.{IsTable, devices_of}
use Rattle.rela_tables.specs.Forwarding.{route_count}
use Rattle.rela_tables.specs.Located.{IsTableIn}
use Rattle.rela_tables.proofs.table.read_tables.Given as goal

abbrev pub invariant-loop-value : goal.invariant-loop-value
invariant-loop-value l = record {
  read : AreTablesSo l.locations (map view l.values) (map view (drop l.value-index l.values)) l.tables.items;
  devices : l.devices.keys ≡ devices_of l.tables.items;
  unique : IsUnique nat_eq l.devices;
  count : l.count ≡ route_count l.tables.items;
  room : l.count ≤ 10000 * length l.devices.keys;
  few : length l.tables.items ≤ 100000;
  each : All IsTable l.tables.items;
  located : All (IsTableIn l.locations) l.tables.items;
}
