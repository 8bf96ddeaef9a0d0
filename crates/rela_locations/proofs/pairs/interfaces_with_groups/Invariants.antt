use Rattle.std.proofs.Common.{◌≡◌, take}
use Rattle.rela_locations.specs.Tables.{numbered_pairs, interface_names}
use Rattle.rela_locations.proofs.pairs.interfaces_with_groups.Given as goal

abbrev pub invariant-loop-group : goal.invariant-loop-group
invariant-loop-group l = l.pairs.items ≡ numbered_pairs l.alphabets.interfaces l.alphabets.groups (λ group. group.name) (λ group. interface_names group.devices) (take l.group-index l.groups)
