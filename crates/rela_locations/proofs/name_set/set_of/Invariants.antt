use Rattle.std.proofs.Common.{◌≡◌, ◌++◌}
use Rattle.std.specs.Vec.Iter.{into_iter_items}
use Rattle.rela_locations.proofs.name_set.set_of.Given as goal

-- the names so far
abbrev pub invariant-loop-name : goal.invariant-loop-name
invariant-loop-name l = (l.set.keys ≡ l.yielded) × (l.yielded ++ into_iter_items l.name-iterator ≡ l.fn.names.items)
