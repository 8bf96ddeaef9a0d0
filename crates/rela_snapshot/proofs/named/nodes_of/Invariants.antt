use Rattle.std.proofs.Common.{◌≡◌, [], drop, map, length, vec_len}
use Rattle.std.specs.List.{All}
use Rattle.serde_json.specs.View.{view}
use Rattle.rela_json.specs.Results.{try_fold}
use Rattle.rela_snapshot.specs.Located.{StandsIn}
use Rattle.rela_snapshot.specs.Named as spec
use Rattle.rela_snapshot.proofs.named.nodes_of.Given as goal

abbrev pub invariant-loop-value : goal.invariant-loop-value
invariant-loop-value l = record {
  nodes : try_fold (spec.add_node l.locations l.row) (spec.nodes_of l.ids l.nodes.items) (map view (drop l.value-index l.values)) ≡ try_fold (spec.add_node l.locations l.row) (spec.nodes_of [] []) (map view l.values);
  len : vec_len l.nodes ≡ l.value-index;
  one_each : length l.ids ≡ vec_len l.nodes;
  located : All (StandsIn l.locations) l.nodes.items;
}
