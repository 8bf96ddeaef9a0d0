use Rattle.std.proofs.Common.{◌+◌, length, not, count_by}
use Rattle.rela_restriction.proofs.Searching.{IsSearched}
use Rattle.rela_restriction.proofs.emptiness.accepts_none.Given as goal

abbrev pub invariant-loop-q : goal.invariant-loop-q
invariant-loop-q g l = IsSearched l.nfa (g.L.LabelSet.letters l.over) l.found.items l.waiting.items

abbrev pub decreases-loop-q : goal.decreases-loop-q
decreases-loop-q g l = length l.waiting.items + count_by not l.found.items
