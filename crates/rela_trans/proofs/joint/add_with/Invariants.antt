use Rattle.std.proofs.Common.{◌≡◌, ◌++◌, map, take}
use Rattle.rela_trans.specs.Composition.{joint_of, moves_with}
use Rattle.rela_trans.specs.Stored.{move_of}
use Rattle.rela_trans.proofs.joint.add_with.Given as goal

abbrev pub invariant-loop-second : goal.invariant-loop-second
invariant-loop-second g l =
    map (joint_of g.L.LabelSet.letters) l.joint.items
    ≡ map (joint_of g.L.LabelSet.letters) l.fn.joint.items ++ moves_with (move_of g.L.LabelSet.letters l.first) (map (move_of g.L.LabelSet.letters) (take l.second-index l.others))
