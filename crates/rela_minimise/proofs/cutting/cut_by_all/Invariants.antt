use Rattle.std.proofs.Common.{length}
use Rattle.rela_minimise.specs.Cutting.{IsPassed}
use Rattle.rela_minimise.specs.Stored.{lists_of}
use Rattle.rela_minimise.proofs.cutting.cut_by_all.Given as goal

abbrev pub invariant-loop-column : goal.invariant-loop-column
invariant-loop-column l = IsPassed (length l.initial.made.numbers.items) (lists_of l.columns) l.column-index l.initial.made.count l.initial.made.numbers.items l.made.count l.made.numbers.items
