-- A network, and what lies where in it.
use Rattle.std.specs.Prelude.{ℕ, Bool, true, false, List, [], length, map, filter, slice_index_or}
use Rattle.std.specs.List.{flat_map, position_or_len, range_with_len}
use Rattle.std.specs.Str.{bytes_eq}
use Rattle.rela_names.specs.declared.level.Level.{Level}
use Rattle.rela_names.specs.declared.level.Level.TheVariants as level
use Rattle.rela_locations.specs.declared.members.By.{By}
use Rattle.rela_locations.specs.declared.members.By.TheVariants as by
use Rattle.rela_locations.specs.Names.{ascending, has_name}

pub record Device : Type 0 where
  pub name : List ℕ
  pub tags : List (List ℕ)
  pub interfaces : List (List ℕ)

pub record Group : Type 0 where
  pub name : List ℕ
  pub devices : List Device

-- the groups in the order of the file
abbrev pub Network : Type 0
Network = List Group

abbrev pub devices_in : Network → List Device
devices_in network = flat_map (λ group. group.devices) network

-- the names of the locations of a level, in the order of the file
abbrev pub names_at : Level → Network → List (List ℕ)
names_at level.Interface network = flat_map (λ device. device.interfaces) (devices_in network)
names_at level.Device network = map (λ device. device.name) (devices_in network)
names_at level.Group network = map (λ group. group.name) network

-- the names of the locations of a level, ascending: the n-th is the name of symbol n
abbrev pub alphabet_of : Level → Network → List (List ℕ)
alphabet_of at network = ascending (names_at at network)

-- the name of a symbol of a level
abbrev pub name_of : Level → Network → ℕ → List ℕ
name_of at network symbol = slice_index_or (alphabet_of at network) symbol []

-- the network with some of its devices alone
abbrev pub with_devices : (List Device → List Device) → Network → Network
with_devices some = map {A = Group} (λ group. record group { devices = some group.devices })

-- the device with some of its interfaces alone
abbrev pub with_interfaces : (List (List ℕ) → List (List ℕ)) → Device → Device
with_interfaces some device = record device { interfaces = some device.interfaces }

-- the part of the network that lies in the named location, or in devices with the named tag
abbrev pub within : By → List ℕ → Network → Network
within by.Interface name = with_devices (map (with_interfaces (filter (bytes_eq name))))
within by.Device name = with_devices (filter (λ device. bytes_eq name device.name))
within by.Group name = filter (λ group. bytes_eq name group.name)
within by.Tag name = with_devices (filter (λ device. has_name device.tags name))

-- the symbols of a level that lie there, ascending
abbrev pub members_of : Level → By → List ℕ → Network → List ℕ
members_of at by name network =
    filter (λ symbol. has_name (names_at at (within by name network)) (name_of at network symbol))
    (range_with_len 0 (length (alphabet_of at network)))

-- the names that a network has of a kind
abbrev pub names_by : By → Network → List (List ℕ)
names_by by.Interface network = names_at level.Interface network
names_by by.Device network = names_at level.Device network
names_by by.Group network = names_at level.Group network
names_by by.Tag network = flat_map (λ device. device.tags) (devices_in network)

-- a tag counts as a device
abbrev pub is_finer : By → Level → Bool
is_finer by.Interface level.Interface = false
is_finer by.Interface level.Device = true
is_finer by.Interface level.Group = true
is_finer by.Device level.Interface = false
is_finer by.Device level.Device = false
is_finer by.Device level.Group = true
is_finer by.Group level.Interface = false
is_finer by.Group level.Device = false
is_finer by.Group level.Group = false
is_finer by.Tag level.Interface = false
is_finer by.Tag level.Device = false
is_finer by.Tag level.Group = true

abbrev pub by_level : Level → By
by_level level.Interface = by.Interface
by_level level.Device = by.Device
by_level level.Group = by.Group

-- the symbol of the location of a level in which an interface lies
abbrev pub location_of : Level → Network → ℕ → ℕ
location_of at network interface =
    position_or_len (λ place. has_name (names_at level.Interface (within (by_level at) place
    network)) (name_of level.Interface network interface)) (alphabet_of at network)
