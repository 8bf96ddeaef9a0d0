use Rattle.std.proofs.Common.{◌++◌, List, map, take}
use Rattle.rela_nfa.specs.Automaton.{Move}
use Rattle.rela_nfa.specs.Stored.{move_of}
use Rattle.rela_subset.specs.Outgoing.{AreSortedOut}
use Rattle.rela_subset.proofs.outgoing.sort_out.Given as goal

abbrev pub invariant-loop-edge : goal.invariant-loop-edge
invariant-loop-edge g l =
    (moves : List Move) → AreSortedOut moves l.fn.singles.items (map (λ edge. move_of g.L.LabelSet.letters edge.now) l.fn.others.items)
    → AreSortedOut (moves ++ map (move_of g.L.LabelSet.letters) (take l.edge-index l.edges)) l.singles.items (map (λ edge. move_of g.L.LabelSet.letters edge.now) l.others.items)
