use Rattle.std.proofs.Common.{◌≡◌, ◌≤◌, length}
use Rattle.rela_names.specs.declared.level.Level.TheVariants as level
use Rattle.rela_locations.specs.Names.{with_names}
use Rattle.rela_locations.specs.Network.{names_at}
use Rattle.rela_locations.proofs.PlainLaws.{GroupsSoFar}
use Rattle.rela_locations.proofs.plain.read_groups.Given as goal

abbrev pub invariant-groups : goal.invariant-groups
invariant-groups l = record {
  read : GroupsSoFar l.initial.reader l.groups.items l.initial.seen.groups l.initial.seen.devices l.initial.seen.interfaces l.seen.groups l.seen.devices l.seen.interfaces l.reader;
  shorter : length l.reader ≤ length l.initial.reader;
  seen_groups : l.seen.groups ≡ with_names l.initial.seen.groups (names_at level.Group l.groups.items);
  seen_devices : l.seen.devices ≡ with_names l.initial.seen.devices (names_at level.Device l.groups.items);
  seen_interfaces : l.seen.interfaces ≡ with_names l.initial.seen.interfaces (names_at level.Interface l.groups.items);
}

abbrev pub decreases-groups : goal.decreases-groups
decreases-groups l = length l.reader
