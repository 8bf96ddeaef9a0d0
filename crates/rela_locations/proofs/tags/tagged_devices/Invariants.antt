use Rattle.std.proofs.Common.{take}
use Rattle.rela_locations.specs.Network.{devices_in}
use Rattle.rela_locations.specs.Tables.{AreTagged}
use Rattle.rela_locations.proofs.tags.tagged_devices.Given as goal

abbrev pub invariant-loop-group : goal.invariant-loop-group
invariant-loop-group l = AreTagged l.devices (devices_in (take l.group-index l.groups)) l.tagged
