use Rattle.std.proofs.Common.{refl}
use Rattle.rela_names.specs.declared.level.Level.TheVariants as levels
use Rattle.rela_locations.proofs.TableLaws.{known_names}
use Rattle.rela_locations.proofs.locations.locations_of.Goals as goal

pub number_groups-requires-clause-groups : goal.number_groups-requires-clause-groups
number_groups-requires-clause-groups c = known_names _ _ levels.Group c.args.groups.now c.requires.alphabets.groups refl

pub number_groups-requires-clause-devices : goal.number_groups-requires-clause-devices
number_groups-requires-clause-devices c = known_names _ _ levels.Device c.args.groups.now c.requires.alphabets.devices refl

pub number_groups-requires-clause-interfaces : goal.number_groups-requires-clause-interfaces
number_groups-requires-clause-interfaces c = known_names _ _ levels.Interface c.args.groups.now c.requires.alphabets.interfaces refl
