use Rattle.std.proofs.Common.{◌≡◌, take}
use Rattle.rela_locations.specs.Network.{devices_in}
use Rattle.rela_locations.specs.Tables.{numbered_pairs}
use Rattle.rela_locations.proofs.pairs.interfaces_with_devices.Given as goal

abbrev pub invariant-loop-group : goal.invariant-loop-group
invariant-loop-group l = l.pairs.items ≡ numbered_pairs l.alphabets.interfaces l.alphabets.devices (λ device. device.name) (λ device. device.interfaces) (devices_in (take l.group-index l.groups))
