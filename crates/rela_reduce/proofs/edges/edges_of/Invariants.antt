use Rattle.std.proofs.Common.{◌≡◌, map, take}
use Rattle.rela_nfa.specs.Stored.{move_of}
use Rattle.rela_reduce.specs.Numbered.{labelled}
use Rattle.rela_reduce.proofs.edges.edges_of.Given as goal

abbrev pub invariant-loop-arrow : goal.invariant-loop-arrow
invariant-loop-arrow g l = map (move_of g.L.LabelSet.letters) l.edges.items ≡ map (labelled l.labels) (take l.arrow-index l.arrows)
