-- The network of an input: the devices a001, b001, a002, b002 and so on up to n, in one group.
use Rattle.std.specs.Prelude.{ℕ, [], ◌∷◌, codes, map}
use Rattle.rela_locations.specs.Network.{Device, Network}
use Rattle.rela_demo.specs.Names.{Label, device_name, interface_name, labels_from}

abbrev pub device : Label → Device
device label = record {
  name = device_name label;
  tags = [];
  interfaces = interface_name label ∷ [];
}

abbrev pub network : ℕ → Network
network n = record {
  name = codes "all-devices";
  devices = map device (labels_from 1 n);
} ∷ []
