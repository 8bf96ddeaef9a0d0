use Rattle.std.proofs.Common.{◌≡◌, drop, map, vec_len}
use Rattle.serde_json.specs.View.{view}
use Rattle.rela_tables.proofs.Loops.{with_front}
use Rattle.rela_tables.specs.Located.{AreInterfaces}
use Rattle.rela_tables.specs.Starts.{starts_from}
use Rattle.rela_tables.proofs.starts.read_starts.Given as goal

abbrev pub invariant-loop-place : goal.invariant-loop-place
invariant-loop-place l = record {
  starts : with_front l.starts.items (starts_from l.locations l.place (map view (drop l.place l.values))) ≡ starts_from l.locations 0 (map view l.values);
  len : vec_len l.starts ≡ l.place;
  located : AreInterfaces l.locations l.starts.items;
}
