use Rattle.std.proofs.Common.{◌≡◌, ◌<◌, drop, map, length}
use Rattle.std.specs.List.{All}
use Rattle.serde_json.specs.View.{view}
use Rattle.rela_json.specs.Results.{try_map}
use Rattle.rela_snapshot.proofs.Loops.{with_front}
use Rattle.rela_snapshot.specs.Named.{named_place_of}
use Rattle.rela_snapshot.proofs.named.places_of.Given as goal

abbrev pub invariant-loop-value : goal.invariant-loop-value
invariant-loop-value l = record {
  places : with_front l.places.items (try_map (named_place_of l.ids l.rule l.row) (map view (drop l.value-index l.values))) ≡ try_map (named_place_of l.ids l.rule l.row) (map view l.values);
  within : All (λ place. place < length l.ids) l.places.items;
}
