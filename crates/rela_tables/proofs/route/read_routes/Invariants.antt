use Rattle.std.proofs.Common.{◌≡◌, ◌+◌, drop, map, vec_len}
use Rattle.std.specs.List.{All}
use Rattle.indexmap.specs.IndexSet.{IsUnique}
use Rattle.serde_json.specs.View.{view}
use Rattle.rela_tables.proofs.WalkLaws.{AreReadSo}
use Rattle.rela_tables.specs.Distinct.{is_same_key, keys_of}
use Rattle.rela_tables.specs.Located.{IsRouteIn}
use Rattle.rela_tables.proofs.route.read_routes.Given as goal

abbrev pub invariant-loop-value : goal.invariant-loop-value
invariant-loop-value l = record {
  read : AreReadSo l.locations l.first l.row (map view l.values) (map view (drop l.value-index l.values)) l.routes.items;
  row : l.row ≡ l.first + l.value-index;
  len : vec_len l.routes ≡ l.value-index;
  keys : l.seen.keys ≡ keys_of l.routes.items;
  unique : IsUnique is_same_key l.seen;
  located : All (IsRouteIn l.locations) l.routes.items;
}
