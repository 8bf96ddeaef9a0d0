use Rattle.std.proofs.Common.{◌≡◌, ◌+◌, ◌≤◌, length, vec_len}
use Rattle.std.specs.List.{All}
use Rattle.indexmap.specs.IndexSet.{IsUnique}
use Rattle.rela_tables.proofs.PlainLaws.{RoutesSoFar}
use Rattle.rela_tables.specs.Distinct.{is_same_key, keys_of}
use Rattle.rela_tables.specs.Located.{IsRouteIn}
use Rattle.rela_tables.proofs.plain_route.read_routes.Given as goal

abbrev pub invariant-routes : goal.invariant-routes
invariant-routes l = record {
  read : RoutesSoFar l.locations l.first l.row l.initial.reader l.routes.items l.reader;
  shorter : length l.reader ≤ length l.initial.reader;
  row : l.row ≡ l.first + vec_len l.routes;
  few : vec_len l.routes ≤ 10000;
  keys : l.seen.keys ≡ keys_of l.routes.items;
  unique : IsUnique is_same_key l.seen;
  located : All (IsRouteIn l.locations) l.routes.items;
}

abbrev pub decreases-routes : goal.decreases-routes
decreases-routes l = length l.reader
