-- The prefixes of the routes of some tables.
use Rattle.std.specs.Prelude.{List, ◌++◌, map}
use Rattle.std.specs.List.{flat_map}
use Rattle.rela_flows.specs.declared.prefix.Ipv4Prefix.{Ipv4Prefix}
use Rattle.rela_tables.specs.Forwarding.{Forwarding}
use Rattle.rela_tables.specs.declared.route.Route.{Route}
use Rattle.rela_tables.specs.declared.table.Table.{Table}

abbrev pub prefixes_of : List Route → List Ipv4Prefix
prefixes_of routes = map (λ route. route.prefix) routes

abbrev pub prefixes_in : List Table → List Ipv4Prefix
prefixes_in tables = flat_map (λ table. prefixes_of table.routes) tables

-- the prefixes of the routes of two files
abbrev pub prefixes_in_both : Forwarding → Forwarding → List Ipv4Prefix
prefixes_in_both f other = prefixes_in f.tables ++ prefixes_in other.tables
