use Rattle.std.proofs.Common.{map, take}
use Rattle.rela_nfa.specs.Stored.{move_of}
use Rattle.rela_reduce.proofs.Labelling.{AreArrows}
use Rattle.rela_reduce.proofs.numbered.arrows_for.Given as goal

abbrev pub invariant-loop-edge : goal.invariant-loop-edge
invariant-loop-edge g l = AreArrows l.initial.labels l.labels (map (move_of g.L.LabelSet.letters) (take l.edge-index l.edges)) l.arrows.items
