use Rattle.std.proofs.Common.{◌≡◌, drop, map}
use Rattle.std.specs.List.{flat_map}
use Rattle.serde_json.specs.View.{view}
use Rattle.rela_locations.specs.Names.{with_names}
use Rattle.rela_locations.specs.Load.{load_devices}
use Rattle.rela_locations.proofs.Loops.{with_front}
use Rattle.rela_locations.proofs.walk.read_devices.Given as goal

-- the devices so far, and what comes of the entries that are left
abbrev pub invariant-loop-value : goal.invariant-loop-value
invariant-loop-value l = record {
  left : with_front l.devices.items (load_devices l.seen l.seen_interfaces (map view (drop l.value-index l.values))) ≡ load_devices l.initial.seen l.initial.seen_interfaces (map view l.values);
  seen : l.seen ≡ with_names l.initial.seen (map (λ device. device.name) l.devices.items);
  seen_interfaces : l.seen_interfaces ≡ with_names l.initial.seen_interfaces (flat_map (λ device. device.interfaces) l.devices.items);
}
