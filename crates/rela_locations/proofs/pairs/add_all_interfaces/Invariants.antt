use Rattle.std.proofs.Common.{◌≡◌, ◌++◌, take}
use Rattle.rela_locations.specs.Tables.{under, interface_names}
use Rattle.rela_locations.proofs.pairs.add_all_interfaces.Given as goal

abbrev pub invariant-loop-device : goal.invariant-loop-device
invariant-loop-device l = l.pairs.items ≡ l.initial.pairs.items ++ under l.interfaces (interface_names (take l.device-index l.entries)) l.group
