use Rattle.std.proofs.Common.{◌≡◌, take, replicate}
use Rattle.rela_locations.specs.Tables.{with_entries}
use Rattle.rela_locations.proofs.containment.table_of.Given as goal

abbrev pub invariant-loop-pair : goal.invariant-loop-pair
invariant-loop-pair l = l.table.items ≡ with_entries (replicate l.count 0) (take l.pair-index l.pairs)
