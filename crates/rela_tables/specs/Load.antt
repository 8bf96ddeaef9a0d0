-- What a table file stands for in a network: its tables, or the first fault of a walk of the file. The walk takes the
-- starts in order, then the tables in order, and in each its routes in order.
use Rattle.std.specs.Prelude.{ℕ, List, [], ◌∷◌, ◌++◌, Result, Ok}
use Rattle.serde_json.specs.Data.{Data}
use Rattle.rela_json.specs.declared.error.LoadError.{LoadError}
use Rattle.rela_json.specs.declared.error.LoadError.TheVariants.{NotJson}
use Rattle.rela_json.specs.Reading.{reading}
use Rattle.rela_json.specs.Results.{ok_or}
use Rattle.rela_locations.specs.Network.{Network}
use Rattle.rela_snapshot.specs.Steps.{Is, ◌>>=◌}
use Rattle.rela_tables.specs.Distinct.{devices_of}
use Rattle.rela_tables.specs.Forwarding.{Forwarding, route_count}
use Rattle.rela_tables.specs.Routes.{AreRoutes}
use Rattle.rela_tables.specs.TableParts.{contents_of, head_of}
use Rattle.rela_tables.specs.declared.table.Table.{Table}

-- a table after those of these devices, which have so many routes
unfoldable pub IsTableAfter : Network → List ℕ → ℕ → Data → Result Table LoadError → Type 0
IsTableAfter network earlier count d = do
  head ← Is (head_of network earlier d)
  routes ← AreRoutes network count [] head.1
  Is (Ok (record { device = head.0; routes = routes }))

-- the earlier tables, and then those of these entries
unfoldable pub AreTablesAfter : Network → List Table → List Data →
    Result (List Table) LoadError → Type 0
AreTablesAfter network earlier [] = Is (Ok earlier)
AreTablesAfter network earlier (d ∷ ds) = do
  table ← IsTableAfter network (devices_of earlier) (route_count earlier) d
  AreTablesAfter network (earlier ++ table ∷ []) ds

unfoldable pub IsForwarding : Network → Data → Result Forwarding LoadError → Type 0
IsForwarding network d = do
  contents ← Is (contents_of network d)
  tables ← AreTablesAfter network [] contents.1
  Is (Ok (record { starts = contents.0; tables = tables }))

unfoldable pub LoadTables : Network → List ℕ → Result Forwarding LoadError → Type 0
LoadTables network bytes = do
  d ← Is (ok_or NotJson (reading bytes))
  IsForwarding network d
