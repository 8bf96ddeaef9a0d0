use Rattle.std.proofs.Common.{◌≡◌, ℕ, take, map}
use Rattle.std.specs.List.{list_any}
use Rattle.rela_locations.specs.Tables.{has_number}
use Rattle.rela_expand.specs.Known.{picked}
use Rattle.rela_expand.proofs.listing.list.Given as goal

abbrev pub invariant-loop-pick : goal.invariant-loop-pick
invariant-loop-pick l =
    (n : ℕ) → has_number l.symbols.items n ≡ list_any (λ list. has_number list n) (map (picked (record { network = l.locations; level = l.level })) (take l.pick-index l.picks))
