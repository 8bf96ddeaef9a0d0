use Rattle.std.proofs.Common.{◌≡◌, ◌++◌, map, take}
use Rattle.std.specs.List.{flat_map}
use Rattle.rela_nfa.specs.Automaton.{moves_of}
use Rattle.rela_nfa.specs.Meeting.{JointMove, left_moves, right_moves, moves_with}
use Rattle.rela_nfa.specs.Stored.{move_of}
use Rattle.rela_nfa.proofs.followers.add_followers.Given as goal

abbrev pub invariant-loop-edge : goal.invariant-loop-edge
invariant-loop-edge g l =
    l.followers.items
    ≡ ((l.fn.followers.items ++ map (λ (j : JointMove). j.to) (left_moves l.fn.pair.right (moves_of l.fn.first l.fn.pair.left)))
    ++ map (λ (j : JointMove). j.to) (right_moves l.fn.pair.left (moves_of l.fn.second l.fn.pair.right)))
    ++ map (λ (j : JointMove). j.to) (flat_map (λ m. moves_with m (moves_of l.fn.second l.fn.pair.right)) (map (move_of g.L.LabelSet.letters) (take l.edge-index l.left)))
