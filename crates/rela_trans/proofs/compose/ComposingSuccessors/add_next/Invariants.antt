use Rattle.std.proofs.Common.{◌≡◌, ◌++◌, Bool, List, map, take}
use Rattle.rela_trans.specs.Composition.{joint_of}
use Rattle.rela_trans.specs.declared.joint.JointMove.{JointMove}
use Rattle.rela_trans.proofs.compose.ComposingSuccessors.add_next.Given as goal

abbrev pub invariant-loop-made : goal.invariant-loop-made
invariant-loop-made g l =
    l.followers.items ≡ l.fn.followers.items ++ map (λ (j : JointMove (List Bool)). j.to) (map (joint_of g.L.LabelSet.letters) (take l.made-index l.made-items))
