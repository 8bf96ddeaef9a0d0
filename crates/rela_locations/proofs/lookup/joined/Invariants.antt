use Rattle.std.proofs.Common.{◌≡◌, ℕ, [], map, take}
use Rattle.std.specs.Prelude.{slice_index_or}
use Rattle.std.specs.List.{list_any}
use Rattle.rela_locations.specs.Tables.{has_number}
use Rattle.rela_locations.proofs.lookup.joined.Given as goal

abbrev pub invariant-loop-place : goal.invariant-loop-place
invariant-loop-place l = (n : ℕ) → has_number l.all.items n ≡ list_any (λ place. has_number (slice_index_or (map (λ list. list.items) l.lists) place []) n) (take l.place-index l.places)
