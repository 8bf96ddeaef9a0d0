use Rattle.std.proofs.Common.{◌≡◌, ◌++◌, map}
use Rattle.rela_expand.specs.Expand.{listing_of}
use Rattle.rela_expand.specs.Tables.{entry_of}
use Rattle.rela_expand.proofs.making.class_table.Given as goal

abbrev pub invariant-loop-entry : goal.invariant-loop-entry
invariant-loop-entry l = map listing_of l.sets.items ++ map entry_of l.entry-iterator ≡ map entry_of l.fn.entries.keys
