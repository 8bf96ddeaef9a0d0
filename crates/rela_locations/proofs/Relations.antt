-- What lies in what, by pairs of names.
use Rattle.std.proofs.Common.{◌≡◌, ℕ, Bool, List, [], ◌∷◌, ◌++◌, map, filter, refl, ap, sym, ◌∙◌}
use Rattle.std.specs.List.{list_any}
use Rattle.std.specs.Str.{bytes_eq}
use Rattle.std.proofs.lemmas.List.{map-append}
use Rattle.std.proofs.lemmas.List.Elements.{filter-append}
use Rattle.rela_names.specs.declared.level.Level.TheVariants as level
use Rattle.rela_locations.specs.declared.members.By.TheVariants as by
use Rattle.rela_locations.specs.Names.{has_name}
use Rattle.rela_locations.specs.Network.{Device, Group, Network, devices_in, with_devices, within, names_at}
use Rattle.rela_locations.specs.Tables.{index_of, device_names, interface_names, under, numbered_pairs}
use Rattle.rela_locations.proofs.Known.{device_names_by_group, interface_names_by_group}
use Rattle.rela_locations.proofs.PairLaws.{is_pair, pairs_of, lies_under}
use Rattle.rela_locations.proofs.Parents.{Pair, numbered}

abbrev pub name_of_device : Device → List ℕ
name_of_device device = device.name

abbrev pub name_of_group : Group → List ℕ
name_of_group group = group.name

abbrev pub interfaces_of_device : Device → List (List ℕ)
interfaces_of_device device = device.interfaces

abbrev pub interfaces_of_group : Group → List (List ℕ)
interfaces_of_group group = interface_names group.devices

abbrev pub devices_of_group : Group → List (List ℕ)
devices_of_group group = device_names group.devices

-- the interfaces with their devices, and with their groups, and the devices with their groups
abbrev pub interface_device_pairs : Network → List Pair
interface_device_pairs network = pairs_of name_of_device interfaces_of_device (devices_in network)

abbrev pub interface_group_pairs : Network → List Pair
interface_group_pairs network = pairs_of name_of_group interfaces_of_group network

abbrev pub device_group_pairs : Network → List Pair
device_group_pairs network = pairs_of name_of_group devices_of_group network

pub some_devices : (p : Device → Bool) (network : Network) → devices_in (with_devices (filter p) network) ≡ filter p (devices_in network)
some_devices p [] = refl
some_devices p (group ∷ network) =
    ap (λ ds. filter p group.devices ++ ds) (some_devices p network) ∙ sym (filter-append p group.devices (devices_in network))

pub lies_in_device : (network : Network) (interface device : List ℕ)
    → has_name (names_at level.Interface (within by.Device device network)) interface ≡ list_any (is_pair interface device) (interface_device_pairs network)
lies_in_device network interface device =
    ap (λ ds. has_name (interface_names ds) interface) (some_devices (λ d. bytes_eq device d.name) network)
    ∙ lies_under name_of_device interfaces_of_device (devices_in network) interface device

pub lies_in_group : (network : Network) (interface group : List ℕ)
    → has_name (names_at level.Interface (within by.Group group network)) interface ≡ list_any (is_pair interface group) (interface_group_pairs network)
lies_in_group network interface group =
    ap (λ names. has_name names interface) (interface_names_by_group (within by.Group group network))
    ∙ lies_under name_of_group interfaces_of_group network interface group

pub device_lies_in_group : (network : Network) (device group : List ℕ)
    → has_name (names_at level.Device (within by.Group group network)) device ≡ list_any (is_pair device group) (device_group_pairs network)
device_lies_in_group network device group =
    ap (λ names. has_name names device) (device_names_by_group (within by.Group group network))
    ∙ lies_under name_of_group devices_of_group network device group

-- the numbers of pairs
numbers_under : (children parents names : List (List ℕ)) (parent : List ℕ) → map (numbered children parents) (map (λ c. (c, parent)) names) ≡ under children names (index_of parents parent)
numbers_under children parents [] parent = refl
numbers_under children parents (n ∷ names) parent = ap (λ ws. (index_of children n, index_of parents parent) ∷ ws) (numbers_under children parents names parent)

pub numbers_of_pairs : {X : Type 0} (children parents : List (List ℕ)) (key : X → List ℕ) (inside : X → List (List ℕ)) (xs : List X)
    → map (numbered children parents) (pairs_of key inside xs) ≡ numbered_pairs children parents key inside xs
numbers_of_pairs children parents key inside [] = refl
numbers_of_pairs children parents key inside (x ∷ xs) =
    map-append (numbered children parents) (map (λ c. (c, key x)) (inside x)) (pairs_of key inside xs)
    ∙ ap (λ ws. ws ++ map (numbered children parents) (pairs_of key inside xs)) (numbers_under children parents (inside x) (key x))
    ∙ ap (λ ws. under children (inside x) (index_of parents (key x)) ++ ws) (numbers_of_pairs children parents key inside xs)
