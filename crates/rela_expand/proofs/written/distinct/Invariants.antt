use Rattle.std.proofs.Common.{◌≡◌, ℕ, take, map}
use Rattle.std.specs.List.{list_any}
use Rattle.rela_locations.specs.Network.{Network}
use Rattle.rela_locations.specs.Tables.{has_number}
use Rattle.rela_expand.specs.Known.{picked}
use Rattle.rela_expand.specs.Numbered.{named_by}
use Rattle.rela_expand.specs.Places.{Place}
use Rattle.rela_expand.proofs.written.distinct.Given as goal

-- the picks so far have the symbols of the members so far
abbrev pub invariant-loop-member : goal.invariant-loop-member
invariant-loop-member l =
    (network : Network) (n : ℕ) → let place : Place = record { network = network; level = l.level } in
    list_any (λ list. has_number list n) (map (picked place) l.picks.keys) ≡ list_any (λ list. has_number list n) (map (named_by place) (take l.member-index l.members))
