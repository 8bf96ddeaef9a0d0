use Rattle.std.proofs.Common.{◌≡◌, ◌++◌, take}
use Rattle.rela_locations.specs.Tables.{numbered_pairs}
use Rattle.rela_locations.proofs.pairs.add_interfaces.Given as goal

abbrev pub invariant-loop-device : goal.invariant-loop-device
invariant-loop-device l = l.pairs.items ≡ l.initial.pairs.items ++ numbered_pairs l.interfaces l.devices (λ device. device.name) (λ device. device.interfaces) (take l.device-index l.entries)
