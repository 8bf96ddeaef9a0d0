use Rattle.std.proofs.Common.{◌≡◌, ◌++◌, map, take}
use Rattle.rela_nfa.specs.Detours.{direct}
use Rattle.rela_nfa.specs.Stored.{move_of}
use Rattle.rela_nfa.proofs.shortened.add_direct.Given as goal

abbrev pub invariant-loop-edge : goal.invariant-loop-edge
invariant-loop-edge g l =
    map (move_of g.L.LabelSet.letters) l.direct.items
    ≡ map (move_of g.L.LabelSet.letters) l.fn.direct.items ++ map (direct l.nfa l.ends) (map (move_of g.L.LabelSet.letters) (take l.edge-index l.edges))
