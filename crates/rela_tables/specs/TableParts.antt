-- Rules 61 to 68: the parts of a file and of a table.
use Rattle.std.specs.Prelude.{ℕ, ◌==◌, List, length, codes, nat_lt, nat_eq, if◌then◌else◌, Result, Ok, Err}
use Rattle.std.specs.List.{list_any}
use Rattle.serde_json.specs.Data.{Data}
use Rattle.rela_json.specs.declared.error.LoadError.{LoadError}
use Rattle.rela_json.specs.declared.error.LoadError.TheVariants.{BadVersion, RepeatedEntry, TooMany}
use Rattle.rela_json.specs.Results.{◌>>=◌}
use Rattle.rela_names.specs.declared.level.Level.TheVariants.{Device}
use Rattle.rela_locations.specs.Network.{Network}
use Rattle.rela_json.specs.Fields.{entries_of, few_entries_of, part_of, string_of, whole_number_of}
use Rattle.rela_tables.specs.Entries.{symbol_of}
use Rattle.rela_tables.specs.Starts.{starts_from}

abbrev pub version_of : ℕ → Result ℕ LoadError
version_of n = if n == 1 then Ok n else Err BadVersion

-- rules 61 and 62: the version, which is 1
abbrev pub version_in : Data → Result ℕ LoadError
version_in d = do
  part ← part_of (codes "version") 61 0 d
  number ← whole_number_of 62 0 part
  version_of number

-- rules 61 to 65: the version, the starts, and the entries of the tables
unfoldable pub contents_of : Network → Data → Result (List ℕ × List Data) LoadError
contents_of network d = do
  version_part ← part_of (codes "version") 61 0 d
  number ← whole_number_of 62 0 version_part
  version ← version_of number
  starts_part ← part_of (codes "starts") 61 0 d
  start_entries ← entries_of 63 0 starts_part
  starts ← starts_from network 0 start_entries
  tables_part ← part_of (codes "tables") 61 0 d
  ds ← entries_of 65 0 tables_part
  Ok (starts, ds)

-- rule 67: the device of a table, which no earlier table has
unfoldable pub device_of : Network → List ℕ → ℕ → Data → Result ℕ LoadError
device_of network earlier row d = do
  device_part ← part_of (codes "device") 66 row d
  name ← string_of 67 row device_part
  device ← symbol_of Device network row name
  if list_any (nat_eq device) earlier then Err (RepeatedEntry row) else Ok device

-- rule 68: the entries of its routes
unfoldable pub route_entries_of : ℕ → Data → Result (List Data) LoadError
route_entries_of row d = do
  routes_part ← part_of (codes "routes") 66 row d
  few_entries_of 10000 68 row routes_part

-- rules 66 to 68: a table after those of these devices, which are as many as its row
unfoldable pub head_of : Network → List ℕ → Data → Result (ℕ × List Data) LoadError
head_of network earlier d =
    if nat_lt (length earlier) 100000 then (do
      device ← device_of network earlier (length earlier) d
      ds ← route_entries_of (length earlier) d
      Ok (device, ds))
    else Err (TooMany 100000)
