-- Which tables a file can list.
use Rattle.std.specs.Prelude.{ℕ, ◌≤◌, ◌==◌, ◌&&◌, Bool, List, length, map, nat_eq}
use Rattle.std.specs.List.{All, IsDistinct}
use Rattle.rela_flows.specs.declared.prefix.Ipv4Prefix.{Ipv4Prefix}
use Rattle.rela_tables.specs.declared.route.Route.{Route}
use Rattle.rela_tables.specs.declared.table.Table.{Table}

-- the address and the length of a prefix
abbrev pub key_of : Ipv4Prefix → ℕ × ℕ
key_of p = (p.address, p.length)

abbrev pub keys_of : List Route → List (ℕ × ℕ)
keys_of routes = map (λ route. key_of route.prefix) routes

abbrev pub is_same_key : ℕ × ℕ → ℕ × ℕ → Bool
is_same_key a b = a.0 == b.0 && a.1 == b.1

abbrev pub devices_of : List Table → List ℕ
devices_of tables = map (λ table. table.device) tables

-- at most 10,000 routes, each of a prefix of its own
pub record IsTable (table : Table) : Type 0 where
  pub few : length table.routes ≤ 10000
  pub distinct : IsDistinct is_same_key (keys_of table.routes)

-- at most 100,000 tables, each of a device of its own
pub record AreTables (tables : List Table) : Type 0 where
  pub few : length tables ≤ 100000
  pub each : All IsTable tables
  pub distinct : IsDistinct nat_eq (devices_of tables)
