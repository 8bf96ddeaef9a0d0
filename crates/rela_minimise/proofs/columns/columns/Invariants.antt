use Rattle.std.specs.List.{count_by}
use Rattle.rela_minimise.specs.Stored.{lists_of}
use Rattle.rela_minimise.proofs.LeadingAlike.{AreColumnsBut}
use Rattle.rela_minimise.proofs.columns.columns.Given as goal

abbrev pub invariant-loop-letter : goal.invariant-loop-letter
invariant-loop-letter g l = AreColumnsBut l.dfa (g.L.LabelSet.letters l.rest) (lists_of l.columns.items)

abbrev pub decreases-loop-letter : goal.decreases-loop-letter
decreases-loop-letter g l = count_by (λ taken. taken) (g.L.LabelSet.letters l.rest)
