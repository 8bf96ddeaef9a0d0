use Rattle.std.proofs.Common.{◌≡◌, ◌++◌, take}
use Rattle.rela_locations.specs.Tables.{under}
use Rattle.rela_locations.proofs.pairs.add_each.Given as goal

abbrev pub invariant-loop-name : goal.invariant-loop-name
invariant-loop-name l = l.pairs.items ≡ l.initial.pairs.items ++ under l.alphabet (take l.name-index l.names) l.parent
