-- Rules 69 to 72: the parts of a route. A row is the number of earlier routes in the file.
use Rattle.std.specs.Prelude.{ℕ, List, codes, if◌then◌else◌, Option, Some, None, Result, Ok, Err}
use Rattle.std.specs.List.{list_any}
use Rattle.serde_json.specs.Data.{Data}
use Rattle.rela_json.specs.declared.error.LoadError.{LoadError}
use Rattle.rela_json.specs.declared.error.LoadError.TheVariants.{RepeatedEntry}
use Rattle.rela_json.specs.Results.{◌>>=◌, try_map}
use Rattle.rela_flows.specs.declared.prefix.Ipv4Prefix.{Ipv4Prefix}
use Rattle.rela_names.specs.declared.level.Level.TheVariants.{Interface}
use Rattle.rela_locations.specs.Network.{Network}
use Rattle.rela_json.specs.Fields.{entries_of, part_of, string_of}
use Rattle.rela_tables.specs.Distinct.{is_same_key, key_of}
use Rattle.rela_tables.specs.Entries.{symbol_of}
use Rattle.rela_tables.specs.declared.route.Route.{Route}

-- rules 69 and 70: the text of the prefix
unfoldable pub prefix_text_of : ℕ → Data → Result (List ℕ) LoadError
prefix_text_of row d = do
  o ← part_of (codes "prefix") 69 row d
  string_of 70 row o

-- rule 72: a hop
unfoldable pub hop_of : Network → ℕ → Data → Result ℕ LoadError
hop_of network row d = do
  name ← string_of 72 row (Some d)
  symbol_of Interface network row name

-- rule 71: the hops, if the member is there
unfoldable pub listed_hops_of : Network → ℕ → Option Data → Result (Option (List ℕ)) LoadError
listed_hops_of network row None = Ok None
listed_hops_of network row (Some d) = do
  ds ← entries_of 71 row (Some d)
  hops ← try_map (hop_of network row) ds
  Ok (Some hops)

unfoldable pub hops_of : Network → ℕ → Data → Result (Option (List ℕ)) LoadError
hops_of network row d = do
  o ← part_of (codes "hops") 69 row d
  listed_hops_of network row o

-- the route of a prefix, which is none of an earlier route of the table
unfoldable pub route_of : Network → List (ℕ × ℕ) → ℕ → Ipv4Prefix → Data → Result Route LoadError
route_of network earlier row prefix d =
    if list_any (is_same_key (key_of prefix)) earlier then Err (RepeatedEntry row) else (do
      hops ← hops_of network row d
      Ok (record { prefix = prefix; hops = hops }))
