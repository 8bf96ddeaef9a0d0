use Rattle.std.proofs.Common.{◌≡◌, drop, map}
use Rattle.serde_json.specs.View.{view}
use Rattle.rela_names.specs.declared.level.Level.TheVariants as level
use Rattle.rela_locations.specs.Names.{with_names}
use Rattle.rela_locations.specs.Network.{names_at}
use Rattle.rela_locations.specs.Load.{load_groups}
use Rattle.rela_locations.proofs.Loops.{with_front}
use Rattle.rela_locations.proofs.walk.read_groups.Given as goal

-- the groups so far, and what comes of the entries that are left
abbrev pub invariant-loop-value : goal.invariant-loop-value
invariant-loop-value l = record {
  left : with_front l.groups.items (load_groups l.seen.groups l.seen.devices l.seen.interfaces (map view (drop l.value-index l.values))) ≡ load_groups l.initial.seen.groups l.initial.seen.devices l.initial.seen.interfaces (map view l.values);
  seen_groups : l.seen.groups ≡ with_names l.initial.seen.groups (names_at level.Group l.groups.items);
  seen_devices : l.seen.devices ≡ with_names l.initial.seen.devices (names_at level.Device l.groups.items);
  seen_interfaces : l.seen.interfaces ≡ with_names l.initial.seen.interfaces (names_at level.Interface l.groups.items);
}
