use Rattle.std.proofs.Common.{[], refl}
use Rattle.rela_names.specs.declared.level.Level.TheVariants as level
use Rattle.rela_locations.specs.Network.{devices_in}
use Rattle.rela_locations.specs.Tables.{device_names}
use Rattle.rela_locations.proofs.NameSets.{one_place}
use Rattle.rela_locations.proofs.TableLaws.{known_names}
use Rattle.rela_locations.proofs.tables.Tables.new.Goals as goal

pub tagged_devices-requires : goal.tagged_devices-requires
tagged_devices-requires c = known_names _ _ level.Device c.args.groups.now c.requires.alphabets.devices refl

pub returns : goal.returns
returns c = record {
  interfaces_in_devices = c.in_ok-interfaces_in_devices.ensures;
  interfaces_in_groups = c.in_ok-interfaces_in_groups.ensures;
  devices_in_groups = c.in_ok-devices_in_groups.ensures;
  are_tagged = rw (← c.requires.alphabets.devices) c.in_ok-tagged_devices.ensures;
  devices_once = λ k l n at_k at_l. one_place [] (device_names (devices_in c.args.groups.now)) k l n c.requires.once.devices at_k at_l;
}
