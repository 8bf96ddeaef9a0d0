use Rattle.std.proofs.Common.{◌≡◌, ◌++◌, map, take}
use Rattle.rela_nfa.specs.Meeting.{JointMove, moves_with}
use Rattle.rela_nfa.specs.Stored.{move_of}
use Rattle.rela_nfa.proofs.followers.add_with.Given as goal

abbrev pub invariant-loop-second : goal.invariant-loop-second
invariant-loop-second g l =
    l.followers.items
    ≡ l.fn.followers.items ++ map (λ (j : JointMove). j.to) (moves_with (move_of g.L.LabelSet.letters l.first) (map (move_of g.L.LabelSet.letters) (take l.second-index l.others)))
