use Rattle.std.proofs.Common.{◌≡◌, map, take}
use Rattle.rela_locations.specs.Numbered.{group_of}
use Rattle.rela_locations.proofs.numbered.number_groups.Given as goal

abbrev pub invariant-loop-group : goal.invariant-loop-group
invariant-loop-group l = map (group_of l.alphabets) l.numbered.items ≡ take l.group-index l.groups
