use Rattle.std.proofs.Common.{◌≡◌, ◌++◌, map, take}
use Rattle.rela_trans.specs.Composition.{joint_of, first_moves}
use Rattle.rela_trans.specs.Stored.{move_of}
use Rattle.rela_trans.proofs.joint.add_first.Given as goal

abbrev pub invariant-loop-first : goal.invariant-loop-first
invariant-loop-first g l =
    map (joint_of g.L.LabelSet.letters) l.joint.items
    ≡ map (joint_of g.L.LabelSet.letters) l.fn.joint.items ++ first_moves l.right (map (move_of g.L.LabelSet.letters) (take l.first-index l.moves))
