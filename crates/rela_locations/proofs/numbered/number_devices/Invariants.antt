use Rattle.std.proofs.Common.{◌≡◌, map, take}
use Rattle.rela_locations.specs.Numbered.{device_of}
use Rattle.rela_locations.proofs.numbered.number_devices.Given as goal

abbrev pub invariant-loop-device : goal.invariant-loop-device
invariant-loop-device l = map (device_of l.alphabets) l.numbered.items ≡ take l.device-index l.devices
