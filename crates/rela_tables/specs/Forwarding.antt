-- The forwarding tables of a network, as their file lists them.
use Rattle.std.specs.Prelude.{◌==◌, ℕ, List, [], length, find, sum_by}
use Rattle.std.specs.Option.{option_map_or}
use Rattle.rela_tables.specs.declared.route.Route.{Route}
use Rattle.rela_tables.specs.declared.table.Table.{Table}

-- the interfaces at which traffic starts, and the tables of the devices
pub record Forwarding : Type 0 where
  pub starts : List ℕ
  pub tables : List Table

-- the routes of a device: those of its table, or none where it has no table
abbrev pub routes_of : Forwarding → ℕ → List Route
routes_of f device = option_map_or (λ table. table.routes) (find (λ table.
    device == table.device) f.tables) []

-- how many routes some tables have together
abbrev pub route_count : List Table → ℕ
route_count tables = sum_by (λ table. length table.routes) tables
