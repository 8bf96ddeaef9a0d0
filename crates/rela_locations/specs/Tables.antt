-- What is kept of a network beside its list of groups.
use Rattle.std.specs.Prelude.{◌≡◌, ℕ, ◌<◌, ◌==◌, true, false, List, [], ◌∷◌, length, map, filter, fold, slice_set, slice_index}
use Rattle.std.specs.BTreeMap.{BTreeMap, get}
use Rattle.std.specs.Option.{option_map_or}
use Rattle.std.specs.Prelude.{Vec, is_some, ◌&&◌, Bool, Some, slice_get}
use Rattle.std.specs.declared.alloc.Global.{Global}
use Rattle.std.specs.Str.{bytes_eq}
use Rattle.rela_names.specs.Name.{bytes_cmp}
use Rattle.std.specs.List.{list_any, flat_map, position_or_len, range_with_len}
use Rattle.rela_names.specs.Name.{IsAscending}
use Rattle.rela_names.specs.declared.level.Level.{Level}
use Rattle.rela_names.specs.declared.level.Level.TheVariants as level
use Rattle.rela_locations.specs.declared.alphabets.Alphabets.{Alphabets}
use Rattle.rela_locations.specs.declared.containment.Containment.{Containment}
use Rattle.rela_locations.specs.declared.tables.Tables.{Tables}
use Rattle.rela_locations.specs.Names.{has_name, with_name}
use Rattle.rela_locations.specs.Network.{Device, Network, devices_in, names_at, alphabet_of, name_of, by_level, within, members_of}

pub record AreAlphabets (network : Network) (alphabets : Alphabets) : Type 0 where
  pub interfaces : alphabets.interfaces ≡ alphabet_of level.Interface network
  pub devices : alphabets.devices ≡ alphabet_of level.Device network
  pub groups : alphabets.groups ≡ alphabet_of level.Group network

-- the names are among these
abbrev pub AreKnown : List (List ℕ) → List (List ℕ) → Type 0
AreKnown known names = (n : List ℕ) → has_name names n ≡ true → has_name known n ≡ true

abbrev pub device_names : List Device → List (List ℕ)
device_names devices = map (λ device. device.name) devices

abbrev pub interface_names : List Device → List (List ℕ)
interface_names devices = flat_map (λ device. device.interfaces) devices

-- the place of a name among these
abbrev pub index_of : List (List ℕ) → List ℕ → ℕ
index_of names name = position_or_len (bytes_eq name) names

-- the numbers of some children, each with its parent's
abbrev pub under : List (List ℕ) → List (List ℕ) → ℕ → List (ℕ × ℕ)
under children names parent = map (λ n. (index_of children n, parent)) names

-- the numbers of the children of some parents, each with its parent's
abbrev pub numbered_pairs : {X : Type 0} → List (List ℕ) → List (List ℕ) → (X → List ℕ) →
    (X → List (List ℕ)) → List X → List (ℕ × ℕ)
numbered_pairs children parents key inside xs =
    flat_map (λ x. under children (inside x) (index_of parents (key x))) xs

-- a table in which some entries are written
abbrev pub with_entry : List ℕ → ℕ × ℕ → List ℕ
with_entry table entry = slice_set table entry.0 entry.1

abbrev pub with_entries : List ℕ → List (ℕ × ℕ) → List ℕ
with_entries table entries = fold with_entry table entries

-- the places in a table that have this entry
abbrev pub places_of : List ℕ → ℕ → List ℕ
places_of table entry = filter (λ place. slice_index table place == entry)
    (range_with_len 0 (length table))

-- the first location of a level in which a location of a finer one lies
abbrev pub outer_of : Level → Level → Network → ℕ → ℕ
outer_of child parent network symbol =
    position_or_len (λ place. has_name (names_at child (within (by_level parent) place network))
    (name_of child network symbol)) (alphabet_of parent network)

-- for two levels the outer location of each inner one, and the inner ones of each outer one
pub record IsContainment (child parent : Level) (network : Network)
    (containment : Containment) : Type 0 where
  pub outer : containment.outer.items ≡ map (outer_of child parent network)
      (range_with_len 0 (length (alphabet_of child network)))
  pub inner : map (λ list. list.items) containment.inner.items
      ≡ map (λ name. members_of child (by_level parent) name network) (alphabet_of parent network)
  pub inner_ascend : IsAscending (alphabet_of child network)
  pub outer_ascend : IsAscending (alphabet_of parent network)
  pub known : (symbol : ℕ) → symbol < length (alphabet_of child network) →
      outer_of child parent network symbol < length (alphabet_of parent network)
  pub told : (inner outer : ℕ) → inner < length (alphabet_of child network) →
      outer < length (alphabet_of parent network)
      → has_name (names_at child (within (by_level parent) (name_of parent network outer) network))
      (name_of child network inner) ≡ (outer_of child parent network inner == outer)

-- each name comes at one place
abbrev pub IsOnce : List (List ℕ) → Type 0
IsOnce names = (k l : ℕ) (n : List ℕ) → slice_get names k ≡ Some n →
    slice_get names l ≡ Some n → k ≡ l

-- each name is new where it comes
abbrev pub AreNew : List (List ℕ) → List (List ℕ) → Type 0
AreNew names [] = Unit {0}
AreNew names (n ∷ more) = (has_name names n ≡ false) × AreNew (with_name names n) more

-- no name of a level comes twice
pub record IsNamedOnce (network : Network) : Type 0 where
  pub groups : AreNew [] (map (λ group. group.name) network)
  pub devices : AreNew [] (device_names (devices_in network))
  pub interfaces : AreNew [] (interface_names (devices_in network))

abbrev pub has_number : List ℕ → ℕ → Bool
has_number numbers n = list_any (λ m. m == n) numbers

-- the devices that a map has for a tag
abbrev pub devices_for : BTreeMap (List ℕ) (Vec ℕ Global) → List ℕ → List ℕ
devices_for tagged tag = option_map_or (λ list. list.items) (get bytes_cmp tagged tag) []

-- whether one of these devices has this number and this tag
abbrev pub is_tagged : List (List ℕ) → List Device → List ℕ → ℕ → Bool
is_tagged alphabet devices tag n = list_any (λ device. has_name device.tags tag
    && (index_of alphabet device.name == n)) devices

-- a map has the devices with each tag
pub record AreTagged (alphabet : List (List ℕ)) (devices : List Device)
    (tagged : BTreeMap (List ℕ) (Vec ℕ Global)) : Type 0 where
  pub with_tag : (tag : List ℕ) (n : ℕ) → has_number (devices_for tagged tag) n
      ≡ is_tagged alphabet devices tag n
  pub tags : (tag : List ℕ) → is_some (get bytes_cmp tagged tag)
      ≡ has_name (flat_map (λ device. device.tags) devices) tag

pub record AreTables (network : Network) (tables : Tables) : Type 0 where
  pub interfaces_in_devices : IsContainment level.Interface level.Device network
      tables.interfaces_in_devices
  pub interfaces_in_groups : IsContainment level.Interface level.Group network
      tables.interfaces_in_groups
  pub devices_in_groups : IsContainment level.Device level.Group network tables.devices_in_groups
  pub are_tagged : AreTagged (alphabet_of level.Device network) (devices_in network) tables.tagged
  pub devices_once : IsOnce (device_names (devices_in network))

pub record IsIndexed (network : Network) (alphabets : Alphabets) (tables : Tables) : Type 0 where
  pub are_alphabets : AreAlphabets network alphabets
  pub are_tables : AreTables network tables
