use Rattle.std.proofs.Common.{◌≡◌, map, take}
use Rattle.rela_nfa.specs.Construction.{silent}
use Rattle.rela_nfa.specs.Stored.{move_of}
use Rattle.rela_nfa.proofs.copying.silent_edges.Given as goal

abbrev pub invariant-loop-to : goal.invariant-loop-to
invariant-loop-to g l = map (move_of g.L.LabelSet.letters) l.edges.items ≡ map silent (take l.to-index l.ends)
