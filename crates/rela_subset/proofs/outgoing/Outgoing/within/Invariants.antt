use Rattle.std.proofs.Common.{map, take}
use Rattle.rela_nfa.specs.Stored.{move_of}
use Rattle.rela_subset.specs.Outgoing.{AreSortedOut, moves_from}
use Rattle.rela_subset.proofs.outgoing.Outgoing.within.Given as goal

abbrev pub invariant-loop-q : goal.invariant-loop-q
invariant-loop-q g l = AreSortedOut (moves_from l.a (take l.q-index l.set)) l.singles.items (map (λ edge. move_of g.L.LabelSet.letters edge.now) l.others.items)
