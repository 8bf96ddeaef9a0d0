use Rattle.std.proofs.Common.{◌≡◌, drop, map, vec_len}
use Rattle.rela_json.specs.Results.{try_map}
use Rattle.rela_tokens.specs.Pieces.{text}
use Rattle.rela_tables.proofs.Loops.{with_front}
use Rattle.rela_tables.specs.Located.{AreInterfaces}
use Rattle.rela_tables.specs.RouteParts.{hop_of}
use Rattle.rela_tables.proofs.plain_route.hops_at.Given as goal

abbrev pub invariant-loop-name : goal.invariant-loop-name
invariant-loop-name l = record {
  hops : with_front l.hops.items (try_map (hop_of l.locations l.row) (map text (drop l.name-index l.names))) ≡ try_map (hop_of l.locations l.row) (map text l.names);
  len : vec_len l.hops ≡ l.name-index;
  located : AreInterfaces l.locations l.hops.items;
}
