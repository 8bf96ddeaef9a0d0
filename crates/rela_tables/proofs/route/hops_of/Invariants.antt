use Rattle.std.proofs.Common.{◌≡◌, drop, map, vec_len}
use Rattle.serde_json.specs.View.{view}
use Rattle.rela_json.specs.Results.{try_map}
use Rattle.rela_tables.proofs.Loops.{with_front}
use Rattle.rela_tables.specs.Located.{AreInterfaces}
use Rattle.rela_tables.specs.RouteParts.{hop_of}
use Rattle.rela_tables.proofs.route.hops_of.Given as goal

abbrev pub invariant-loop-value : goal.invariant-loop-value
invariant-loop-value l = record {
  hops : with_front l.hops.items (try_map (hop_of l.locations l.row) (map view (drop l.value-index l.values))) ≡ try_map (hop_of l.locations l.row) (map view l.values);
  len : vec_len l.hops ≡ l.value-index;
  located : AreInterfaces l.locations l.hops.items;
}
