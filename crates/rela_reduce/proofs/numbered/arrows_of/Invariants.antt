use Rattle.std.proofs.Common.{take}
use Rattle.rela_reduce.specs.Stored.{lists_of}
use Rattle.rela_reduce.proofs.Labelling.{AreLists}
use Rattle.rela_reduce.proofs.numbered.arrows_of.Given as goal

abbrev pub invariant-loop-q : goal.invariant-loop-q
invariant-loop-q g l = AreLists l.labels (take l.q l.a.edges) (lists_of l.lists.items)
