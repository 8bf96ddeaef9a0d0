-- A network that is told by the symbols of its locations.
use Rattle.std.specs.Prelude.{ℕ, List, [], map, slice_index_or}
use Rattle.rela_locations.specs.declared.alphabets.Alphabets.{Alphabets}
use Rattle.rela_locations.specs.declared.numbered.NumberedDevice.{NumberedDevice}
use Rattle.rela_locations.specs.declared.numbered.NumberedGroup.{NumberedGroup}
use Rattle.rela_locations.specs.Network.{Device, Group, Network}

-- the name of a symbol among these
abbrev pub named : List (List ℕ) → ℕ → List ℕ
named names symbol = slice_index_or names symbol []

abbrev pub device_of : Alphabets → NumberedDevice → Device
device_of alphabets numbered = record {
  name = named alphabets.devices numbered.device;
  tags = numbered.tags;
  interfaces = map (named alphabets.interfaces) numbered.interfaces.items;
}

abbrev pub group_of : Alphabets → NumberedGroup → Group
group_of alphabets numbered = record {
  name = named alphabets.groups numbered.group;
  devices = map (device_of alphabets) numbered.devices.items;
}

unfoldable pub network_of : Alphabets → List NumberedGroup → Network
network_of alphabets groups = map (group_of alphabets) groups
