use Rattle.std.proofs.Common.{◌≡◌, ◌++◌, take}
use Rattle.rela_locations.specs.Tables.{under, device_names}
use Rattle.rela_locations.proofs.pairs.add_devices.Given as goal

abbrev pub invariant-loop-device : goal.invariant-loop-device
invariant-loop-device l = l.pairs.items ≡ l.initial.pairs.items ++ under l.alphabet (device_names (take l.device-index l.entries)) l.group
