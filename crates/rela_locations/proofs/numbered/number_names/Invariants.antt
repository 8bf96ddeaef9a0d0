use Rattle.std.proofs.Common.{◌≡◌, map, take}
use Rattle.rela_locations.specs.Numbered.{named}
use Rattle.rela_locations.proofs.numbered.number_names.Given as goal

abbrev pub invariant-loop-name : goal.invariant-loop-name
invariant-loop-name l = map (named l.alphabet) l.symbols.items ≡ take l.name-index l.names
