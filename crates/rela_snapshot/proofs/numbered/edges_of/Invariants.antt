use Rattle.std.proofs.Common.{◌≡◌, drop, map, vec_len}
use Rattle.std.specs.List.{All}
use Rattle.rela_graph.specs.Topology.{JoinsNodes}
use Rattle.serde_json.specs.View.{view}
use Rattle.rela_json.specs.Results.{try_map}
use Rattle.rela_snapshot.proofs.Loops.{with_front}
use Rattle.rela_snapshot.specs.Numbered.{edge_of}
use Rattle.rela_snapshot.proofs.numbered.edges_of.Given as goal

abbrev pub invariant-loop-value : goal.invariant-loop-value
invariant-loop-value l = record {
  edges : with_front l.edges.items (try_map (edge_of l.count l.row) (map view (drop l.value-index l.values))) ≡ try_map (edge_of l.count l.row) (map view l.values);
  len : vec_len l.edges ≡ l.value-index;
  join : All (JoinsNodes l.count) l.edges.items;
}
