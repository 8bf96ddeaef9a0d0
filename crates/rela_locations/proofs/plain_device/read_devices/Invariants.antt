use Rattle.std.proofs.Common.{◌≡◌, ◌≤◌, length, map}
use Rattle.std.specs.List.{flat_map}
use Rattle.rela_locations.specs.Names.{with_names}
use Rattle.rela_locations.proofs.PlainLaws.{DevicesSoFar}
use Rattle.rela_locations.proofs.plain_device.read_devices.Given as goal

abbrev pub invariant-devices : goal.invariant-devices
invariant-devices l = record {
  read : DevicesSoFar l.initial.seen l.initial.seen_interfaces l.initial.reader l.devices.items l.seen l.seen_interfaces l.reader;
  shorter : length l.reader ≤ length l.initial.reader;
  seen : l.seen ≡ with_names l.initial.seen (map (λ device. device.name) l.devices.items);
  seen_interfaces : l.seen_interfaces ≡ with_names l.initial.seen_interfaces (flat_map (λ device. device.interfaces) l.devices.items);
}

abbrev pub decreases-devices : goal.decreases-devices
decreases-devices l = length l.reader
