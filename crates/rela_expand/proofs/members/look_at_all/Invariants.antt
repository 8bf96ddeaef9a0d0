use Rattle.std.proofs.Common.{◌≡◌, Ok, map, take}
use Rattle.rela_json.specs.Results.{try_map}
use Rattle.rela_expand.specs.Numbered.{or_none}
use Rattle.rela_expand.specs.Places.{symbols_of}
use Rattle.rela_expand.proofs.members.look_at_all.Given as goal

abbrev pub invariant-loop-member : goal.invariant-loop-member
invariant-loop-member l =
    try_map (symbols_of (record { network = l.locations; level = l.level })) (take l.member-index l.members)
    ≡ Ok (map (λ m. or_none (symbols_of (record { network = l.locations; level = l.level }) m)) (take l.member-index l.members))
