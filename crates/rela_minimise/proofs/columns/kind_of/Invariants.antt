use Rattle.rela_minimise.proofs.LeadingAlike.{IsKind}
use Rattle.rela_minimise.proofs.columns.kind_of.Given as goal

abbrev pub invariant-loop-q : goal.invariant-loop-q
invariant-loop-q g l = IsKind l.dfa (g.L.LabelSet.letters l.rest) l.letter l.q (g.L.LabelSet.letters l.letters) l.column.items
