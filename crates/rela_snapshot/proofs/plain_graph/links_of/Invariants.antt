use Rattle.std.proofs.Common.{◌≡◌, drop, map, vec_len}
use Rattle.std.specs.List.{All}
use Rattle.rela_graph.specs.Topology.{JoinsNodes}
use Rattle.rela_json.specs.Results.{try_map}
use Rattle.rela_tokens.specs.Pieces.{pair}
use Rattle.rela_snapshot.proofs.Loops.{with_front}
use Rattle.rela_snapshot.specs.Numbered.{edge_of}
use Rattle.rela_snapshot.proofs.plain_graph.links_of.Given as goal

abbrev pub invariant-loop-a : goal.invariant-loop-a
invariant-loop-a l = record {
  edges : with_front l.edges.items (try_map (edge_of l.count l.row) (map pair (drop l.a-index l.pairs))) ≡ try_map (edge_of l.count l.row) (map pair l.pairs);
  len : vec_len l.edges ≡ l.a-index;
  join : All (JoinsNodes l.count) l.edges.items;
}
