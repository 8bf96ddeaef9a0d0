use Rattle.std.proofs.Common.{◌≡◌, ◌++◌, map, take}
use Rattle.rela_nfa.specs.Meeting.{JointMove, right_moves}
use Rattle.rela_nfa.specs.Stored.{move_of}
use Rattle.rela_nfa.proofs.followers.add_right.Given as goal

abbrev pub invariant-loop-edge : goal.invariant-loop-edge
invariant-loop-edge g l =
    l.followers.items ≡ l.fn.followers.items ++ map (λ (j : JointMove). j.to) (right_moves l.left (map (move_of g.L.LabelSet.letters) (take l.edge-index l.edges)))
