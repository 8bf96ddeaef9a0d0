use Rattle.std.proofs.Common.{map, take}
use Rattle.rela_nfa.specs.Stored.{move_of}
use Rattle.rela_minimise.specs.Refining.{HasAdded}
use Rattle.rela_minimise.specs.Stored.{lists_of}
use Rattle.rela_minimise.proofs.predecessors.add_all.Given as goal

abbrev pub invariant-loop-edge : goal.invariant-loop-edge
invariant-loop-edge g l = HasAdded (map (move_of g.L.LabelSet.letters) (take l.edge-index l.edges)) l.p (lists_of l.initial.lists.items) (lists_of l.lists.items)
