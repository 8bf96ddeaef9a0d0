use Rattle.std.proofs.Common.{◌≡◌, ◌<◌, ◌==◌, ℕ, [], map, filter, get_or, vec_len}
use Rattle.std.specs.Prelude.{slice_index}
use Rattle.std.specs.List.{range_with_len}
use Rattle.rela_locations.proofs.containment.places_of.Given as goal

abbrev pub invariant-loop-at : goal.invariant-loop-at
invariant-loop-at l = record {
  count : vec_len l.lists ≡ l.count;
  places : (k : ℕ) → k < l.count → get_or (map (λ list. list.items) l.lists.items) k [] ≡ filter (λ place. slice_index l.table place == k) (range_with_len 0 l.at);
}
