-- In what a file stands for no two entries of one kind have one name.
use Rattle.std.proofs.Common.{◌≡◌, ℕ, false, List, [], ◌∷◌, ◌++◌, Some, Result, Ok, Err, map, ◌==◌, if◌then◌else◌, codes, subst, refl, ap, arith}
use Rattle.serde_json.specs.Data.{Data}
use Rattle.rela_json.specs.Results.{◌>>=◌, ok_or}
use Rattle.rela_locations.specs.Names.{with_name, with_names, next_row, new_name, has_name}
use Rattle.rela_locations.specs.Network.{Device, Group, Network, devices_in}
use Rattle.rela_json.specs.Parts.{text_of, number_of, items_of}
use Rattle.rela_json.specs.declared.error.LoadError.TheVariants.{BadVersion, NotJson}
use Rattle.std.proofs.lemmas.Grind.{flat_map-append}
use Rattle.std.proofs.lemmas.List.{map-append}
use Rattle.rela_json.specs.Reading.{reading}
use Rattle.rela_locations.specs.Load.{Load, part, needed, load_tags, load_interface, load_interfaces, load_device, load_devices, load_group, load_groups, load_file}
use Rattle.rela_locations.specs.Tables.{device_names, interface_names, AreNew, IsNamedOnce}
use Rattle.rela_locations.proofs.NameSets.{AreNew-append}

pub bind_ok : {A B E : Type 0} (r : Result A E) (f : A → Result B E) (y : B) → (r >>= f) ≡ Ok y → (x : A) × (r ≡ Ok x) × (f x ≡ Ok y)
bind_ok (Ok x) f y e = (x, refl, e)
bind_ok (Err e) f y h = cc

ok_is : {A E : Type 0} (x y : A) → let r : A → Result A E = λ z. Ok z in r x ≡ r y → x ≡ y
ok_is x y e = cc

new_name_is_new : (names : List (List ℕ)) (row : ℕ) (bytes n : List ℕ) → new_name names row bytes ≡ Ok n → has_name names n ≡ false
new_name_is_new names row bytes n e = grind arith

interface_is_new : (earlier : List (List ℕ)) (d : Data) (n : List ℕ) → load_interface earlier d ≡ Ok n → has_name earlier n ≡ false
interface_is_new earlier d n e =
    let row = bind_ok (next_row earlier) _ n e in
    let bytes = bind_ok (needed 12 row.0 text_of (Some d)) _ n row.2 in
    new_name_is_new earlier row.0 bytes.0 n bytes.2

interfaces_are_new : (earlier : List (List ℕ)) (ds : List Data) (names : List (List ℕ)) → load_interfaces earlier ds ≡ Ok names → AreNew earlier names
interfaces_are_new earlier [] names e = let none : [] ≡ names = ok_is _ _ e in subst (λ (ns : List (List ℕ)). AreNew earlier ns) none tt
interfaces_are_new earlier (d ∷ ds) names e =
    let first = bind_ok (load_interface earlier d) _ names e in
    let others = bind_ok (load_interfaces (with_name earlier first.0) ds) _ names first.2 in
    let all : first.0 ∷ others.0 ≡ names = ok_is _ _ others.2 in
    subst (λ (ns : List (List ℕ)). AreNew earlier ns) all
    (interface_is_new earlier d first.0 first.1, interfaces_are_new (with_name earlier first.0) ds others.0 others.1)

-- a device's name is new, and the names of its interfaces are
DeviceIsNew : List (List ℕ) → List (List ℕ) → Device → Type 0
DeviceIsNew earlier interfaces device = (has_name earlier device.name ≡ false) × AreNew interfaces device.interfaces

device_is_new : (earlier interfaces : List (List ℕ)) (d : Data) (device : Device) → load_device earlier interfaces d ≡ Ok device → DeviceIsNew earlier interfaces device
unfolding DeviceIsNew
device_is_new earlier interfaces d device e =
    let row = bind_ok (next_row earlier) _ device e in
    let name_part = bind_ok (part 7 row.0 (codes "name") d) _ device row.2 in
    let tags_part = bind_ok (part 7 row.0 (codes "tags") d) _ device name_part.2 in
    let interfaces_part = bind_ok (part 7 row.0 (codes "interfaces") d) _ device tags_part.2 in
    let bytes = bind_ok (needed 8 row.0 text_of name_part.0) _ device interfaces_part.2 in
    let name = bind_ok (new_name earlier row.0 bytes.0) _ device bytes.2 in
    let tags = bind_ok (load_tags row.0 tags_part.0) _ device name.2 in
    let ds = bind_ok (needed 11 row.0 items_of interfaces_part.0) _ device tags.2 in
    let names = bind_ok (load_interfaces interfaces ds.0) _ device ds.2 in
    let made = ok_is _ device names.2 in
    let name_is : name.0 ≡ device.name = ap (λ (x : Device). x.name) made in
    let interfaces_are : names.0 ≡ device.interfaces = ap (λ (x : Device). x.interfaces) made in (
      rw (← name_is) (new_name_is_new earlier row.0 bytes.0 name.0 name.1),
      subst (λ (ns : List (List ℕ)). AreNew interfaces ns) interfaces_are (interfaces_are_new interfaces ds.0 names.0 names.1),
    )

DevicesAreNew : List (List ℕ) → List (List ℕ) → List Device → Type 0
DevicesAreNew earlier interfaces devices = AreNew earlier (device_names devices) × AreNew interfaces (interface_names devices)

devices_are_new : (earlier interfaces : List (List ℕ)) (ds : List Data) (devices : List Device) → load_devices earlier interfaces ds ≡ Ok devices → DevicesAreNew earlier interfaces devices
unfolding DeviceIsNew DevicesAreNew
devices_are_new earlier interfaces [] devices e = let none : [] ≡ devices = ok_is _ _ e in subst (DevicesAreNew earlier interfaces) none (tt, tt)
devices_are_new earlier interfaces (d ∷ ds) devices e =
    let first = bind_ok (load_device earlier interfaces d) _ devices e in
    let others = bind_ok (load_devices (with_name earlier first.0.name) (with_names interfaces first.0.interfaces) ds) _ devices first.2 in
    let all : first.0 ∷ others.0 ≡ devices = ok_is _ _ others.2 in
    let here = device_is_new earlier interfaces d first.0 first.1 in
    let there = devices_are_new (with_name earlier first.0.name) (with_names interfaces first.0.interfaces) ds others.0 others.1 in
    subst (DevicesAreNew earlier interfaces) all
    ((here.0, there.0), AreNew-append interfaces first.0.interfaces (interface_names others.0) here.1 there.1)

GroupsAreNew : List (List ℕ) → List (List ℕ) → List (List ℕ) → Network → Type 0
GroupsAreNew earlier devices interfaces groups =
    AreNew earlier (map (λ group. group.name) groups) × AreNew devices (device_names (devices_in groups)) × AreNew interfaces (interface_names (devices_in groups))

group_is_new : (earlier devices interfaces : List (List ℕ)) (d : Data) (group : Group) → load_group earlier devices interfaces d ≡ Ok group
    → (has_name earlier group.name ≡ false) × DevicesAreNew devices interfaces group.devices
group_is_new earlier devices interfaces d group e =
    let row = bind_ok (next_row earlier) _ group e in
    let name_part = bind_ok (part 4 row.0 (codes "name") d) _ group row.2 in
    let devices_part = bind_ok (part 4 row.0 (codes "devices") d) _ group name_part.2 in
    let bytes = bind_ok (needed 5 row.0 text_of name_part.0) _ group devices_part.2 in
    let name = bind_ok (new_name earlier row.0 bytes.0) _ group bytes.2 in
    let ds = bind_ok (needed 6 row.0 items_of devices_part.0) _ group name.2 in
    let inside = bind_ok (load_devices devices interfaces ds.0) _ group ds.2 in
    let made = ok_is _ group inside.2 in
    let name_is : name.0 ≡ group.name = ap (λ (x : Group). x.name) made in
    let devices_are : inside.0 ≡ group.devices = ap (λ (x : Group). x.devices) made in (
      rw (← name_is) (new_name_is_new earlier row.0 bytes.0 name.0 name.1),
      subst (DevicesAreNew devices interfaces) devices_are (devices_are_new devices interfaces ds.0 inside.0 inside.1),
    )

groups_are_new : (earlier devices interfaces : List (List ℕ)) (ds : List Data) (groups : Network) → load_groups earlier devices interfaces ds ≡ Ok groups
    → GroupsAreNew earlier devices interfaces groups
unfolding DevicesAreNew GroupsAreNew
groups_are_new earlier devices interfaces [] groups e = let none : [] ≡ groups = ok_is _ _ e in subst (GroupsAreNew earlier devices interfaces) none (tt, tt, tt)
groups_are_new earlier devices interfaces (d ∷ ds) groups e =
    let first = bind_ok (load_group earlier devices interfaces d) _ groups e in
    let more_devices = with_names devices (device_names first.0.devices) in
    let more_interfaces = with_names interfaces (interface_names first.0.devices) in
    let others = bind_ok (load_groups (with_name earlier first.0.name) more_devices more_interfaces ds) _ groups first.2 in
    let all : first.0 ∷ others.0 ≡ groups = ok_is _ _ others.2 in
    let here = group_is_new earlier devices interfaces d first.0 first.1 in
    let there = groups_are_new (with_name earlier first.0.name) more_devices more_interfaces ds others.0 others.1 in
    let names_are : device_names (devices_in (first.0 ∷ others.0)) ≡ device_names first.0.devices ++ device_names (devices_in others.0) =
    map-append _ first.0.devices (devices_in others.0) in
    let interfaces_are : interface_names (devices_in (first.0 ∷ others.0)) ≡ interface_names first.0.devices ++ interface_names (devices_in others.0) =
    flat_map-append _ first.0.devices (devices_in others.0) in
    subst (GroupsAreNew earlier devices interfaces) all (
      (here.0, there.0),
      rw names_are (AreNew-append devices (device_names first.0.devices) (device_names (devices_in others.0)) here.1.0 there.1),
      rw interfaces_are (AreNew-append interfaces (interface_names first.0.devices) (interface_names (devices_in others.0)) here.1.1 there.2),
    )

pub loaded_names : (d : Data) (network : Network) → load_file d ≡ Ok network → IsNamedOnce network
unfolding GroupsAreNew
loaded_names d network e =
    let version_part = bind_ok (part 1 0 (codes "version") d) _ network e in
    let groups_part = bind_ok (part 1 0 (codes "groups") d) _ network version_part.2 in
    let version = bind_ok (needed 2 0 number_of version_part.0) _ network groups_part.2 in
    let ds = bind_ok (if version.0 == 1 then needed 3 0 items_of groups_part.0 else Err BadVersion) _ network version.2 in
    let new = groups_are_new [] [] [] ds.0 network ds.2 in
    record { groups = new.0; devices = new.1; interfaces = new.2 }

pub read_names : (bytes : List ℕ) (network : Network) → Load bytes ≡ Ok network → IsNamedOnce network
read_names bytes network e =
    let root = bind_ok (ok_or NotJson (reading bytes)) load_file network e in
    loaded_names root.0 network root.2
