use Rattle.std.proofs.Common.{◌≡◌, ◌++◌, map, take}
use Rattle.rela_nfa.specs.Detours.{redirected}
use Rattle.rela_nfa.specs.Stored.{move_of}
use Rattle.rela_reduce.proofs.passing.push_redirected.Given as goal

abbrev pub invariant-loop-edge : goal.invariant-loop-edge
invariant-loop-edge g l =
    map (move_of g.L.LabelSet.letters) l.edges.items
    ≡ map (move_of g.L.LabelSet.letters) l.initial.edges.items ++ map (redirected l.ends) (map (move_of g.L.LabelSet.letters) (take l.edge-index l.others))
