use Rattle.std.proofs.Common.{◌≡◌, drop, map}
use Rattle.rela_tokens.specs.Pieces.{text}
use Rattle.rela_tables.proofs.Loops.{with_front}
use Rattle.rela_tables.specs.Located.{AreInterfaces}
use Rattle.rela_tables.specs.Starts.{starts_from}
use Rattle.rela_tables.proofs.plain.starts_at.Given as goal

abbrev pub invariant-loop-name : goal.invariant-loop-name
invariant-loop-name l = record {
  starts : with_front l.starts.items (starts_from l.locations l.row (map text (drop l.name-index l.names))) ≡ starts_from l.locations 0 (map text l.names);
  row : l.row ≡ l.name-index;
  located : AreInterfaces l.locations l.starts.items;
}
