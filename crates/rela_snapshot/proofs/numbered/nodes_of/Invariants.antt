use Rattle.std.proofs.Common.{◌≡◌, drop, map, vec_len}
use Rattle.std.specs.List.{All}
use Rattle.serde_json.specs.View.{view}
use Rattle.rela_json.specs.Results.{try_map}
use Rattle.rela_snapshot.proofs.Loops.{with_front}
use Rattle.rela_snapshot.specs.Located.{StandsIn}
use Rattle.rela_snapshot.specs.Numbered.{node_of}
use Rattle.rela_snapshot.proofs.numbered.nodes_of.Given as goal

abbrev pub invariant-loop-value : goal.invariant-loop-value
invariant-loop-value l = record {
  nodes : with_front l.nodes.items (try_map (node_of l.locations l.row) (map view (drop l.value-index l.values))) ≡ try_map (node_of l.locations l.row) (map view l.values);
  len : vec_len l.nodes ≡ l.value-index;
  located : All (StandsIn l.locations) l.nodes.items;
}
