use Rattle.std.proofs.Common.{◌≡◌, drop, map, vec_len}
use Rattle.std.specs.List.{All}
use Rattle.rela_json.specs.Results.{try_map}
use Rattle.rela_tokens.specs.Pieces.{text}
use Rattle.rela_snapshot.proofs.Loops.{with_front}
use Rattle.rela_snapshot.specs.Located.{StandsIn}
use Rattle.rela_snapshot.specs.Numbered.{node_of}
use Rattle.rela_snapshot.proofs.plain_graph.nodes_at.Given as goal

abbrev pub invariant-loop-name : goal.invariant-loop-name
invariant-loop-name l = record {
  nodes : with_front l.nodes.items (try_map (node_of l.locations l.row) (map text (drop l.name-index l.names))) ≡ try_map (node_of l.locations l.row) (map text l.names);
  len : vec_len l.nodes ≡ l.name-index;
  located : All (StandsIn l.locations) l.nodes.items;
}
