-- What a location file stands for: a network, or the first fault of a walk of the file. The walk takes the groups in
-- order, in each its devices in order, in each device its tags and then its interfaces. A row counts the earlier
-- entries of the same kind in the whole file: groups in rules 4 to 6, devices in rules 7 to 11, interfaces in rule 12.
-- The names of earlier entries are kept ascending. None comes twice, so they are as many as the entries.
use Rattle.std.specs.Prelude.{ℕ, List, [], ◌∷◌, map, Option, Some, None, option_and_then, Result, Ok, Err, ◌==◌, if◌then◌else◌, codes}
use Rattle.std.specs.List.{flat_map}
use Rattle.serde_json.specs.Data.{Data}
use Rattle.rela_json.specs.declared.error.LoadError.{LoadError}
use Rattle.rela_json.specs.declared.error.LoadError.TheVariants.{NotJson, WrongShape, BadVersion, BadName}
use Rattle.rela_json.specs.Parts.{member_of, text_of, number_of, items_of}
use Rattle.rela_json.specs.Reading.{reading}
use Rattle.rela_json.specs.Results.{◌>>=◌, ok_or, try_map}
use Rattle.rela_names.specs.Name.{is_name}
use Rattle.rela_locations.specs.Names.{with_name, with_names, next_row, new_name}
use Rattle.rela_locations.specs.Network.{Device, Group, Network}

-- a member of an object, if it has one of that name
abbrev pub part : ℕ → ℕ → List ℕ → Data → Result (Option Data) LoadError
part rule row name d = ok_or (WrongShape rule row) (member_of name d)

-- a value that has to be there and of the kind that `read` reads
abbrev pub needed : {A : Type 0} → ℕ → ℕ → (Data → Option A) → Option Data → Result A LoadError
needed rule row read value = ok_or (WrongShape rule row) (option_and_then read value)

-- rule 12: an interface, after those of these names
abbrev pub load_interface : List (List ℕ) → Data → Result (List ℕ) LoadError
load_interface earlier d = do
  row ← next_row earlier
  bytes ← needed 12 row text_of (Some d)
  new_name earlier row bytes

abbrev pub load_interfaces : List (List ℕ) → List Data → Result (List (List ℕ)) LoadError
load_interfaces earlier [] = Ok []
load_interfaces earlier (d ∷ ds) = do
  name ← load_interface earlier d
  names ← load_interfaces (with_name earlier name) ds
  Ok (name ∷ names)

-- rule 10: a tag
abbrev pub load_tag : ℕ → Data → Result (List ℕ) LoadError
load_tag row d = do
  bytes ← needed 10 row text_of (Some d)
  if is_name bytes then Ok bytes else Err (BadName row)

-- rule 9: the tags, none where the member is missing
abbrev pub load_tags : ℕ → Option Data → Result (List (List ℕ)) LoadError
load_tags row None = Ok []
load_tags row (Some d) = do
  ds ← needed 9 row items_of (Some d)
  try_map (load_tag row) ds

-- rules 7 to 11: a device, after devices and interfaces of these names
abbrev pub load_device : List (List ℕ) → List (List ℕ) → Data → Result Device LoadError
load_device earlier interfaces d = do
  row ← next_row earlier
  name_part ← part 7 row (codes "name") d
  tags_part ← part 7 row (codes "tags") d
  interfaces_part ← part 7 row (codes "interfaces") d
  bytes ← needed 8 row text_of name_part
  name ← new_name earlier row bytes
  tags ← load_tags row tags_part
  ds ← needed 11 row items_of interfaces_part
  names ← load_interfaces interfaces ds
  Ok (record { name = name; tags = tags; interfaces = names })

abbrev pub load_devices : List (List ℕ) → List (List ℕ) → List Data → Result (List Device) LoadError
load_devices earlier interfaces [] = Ok []
load_devices earlier interfaces (d ∷ ds) = do
  device ← load_device earlier interfaces d
  devices ← load_devices (with_name earlier device.name)
      (with_names interfaces device.interfaces) ds
  Ok (device ∷ devices)

-- rules 4 to 6: a group, after groups, devices and interfaces of these names

abbrev pub load_group : List (List ℕ) → List (List ℕ) → List (List ℕ) → Data →
    Result Group LoadError
load_group earlier devices interfaces d = do
  row ← next_row earlier
  name_part ← part 4 row (codes "name") d
  devices_part ← part 4 row (codes "devices") d
  bytes ← needed 5 row text_of name_part
  name ← new_name earlier row bytes
  ds ← needed 6 row items_of devices_part
  inside ← load_devices devices interfaces ds
  Ok (record { name = name; devices = inside })

abbrev pub load_groups : List (List ℕ) → List (List ℕ) → List (List ℕ) → List Data →
    Result Network LoadError
load_groups earlier devices interfaces [] = Ok []
load_groups earlier devices interfaces (d ∷ ds) = do
  group ← load_group earlier devices interfaces d
  groups ← load_groups (with_name earlier group.name)
      (with_names devices (map (λ device. device.name) group.devices))
      (with_names interfaces (flat_map (λ device. device.interfaces) group.devices)) ds
  Ok (group ∷ groups)

-- rules 1 to 3: the file
abbrev pub load_file : Data → Result Network LoadError
load_file d = do
  version_part ← part 1 0 (codes "version") d
  groups_part ← part 1 0 (codes "groups") d
  version ← needed 2 0 number_of version_part
  ds ← (if version == 1 then needed 3 0 items_of groups_part else Err BadVersion)
  load_groups [] [] [] ds

abbrev pub Load : List ℕ → Result Network LoadError
Load bytes = do
  d ← ok_or NotJson (reading bytes)
  load_file d
