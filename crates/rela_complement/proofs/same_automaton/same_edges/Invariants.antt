use Rattle.std.proofs.Common.{◌≡◌, map, take}
use Rattle.rela_nfa.specs.Stored.{move_of}
use Rattle.rela_complement.proofs.same_automaton.same_edges.Given as goal

-- the edges so far
abbrev pub invariant-loop-at : goal.invariant-loop-at
invariant-loop-at g l =
    take l.at (map (move_of g.L.LabelSet.letters) l.edges) ≡ take l.at (map (move_of g.L.LabelSet.letters) l.others)
