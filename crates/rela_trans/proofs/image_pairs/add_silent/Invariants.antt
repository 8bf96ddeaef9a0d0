use Rattle.std.proofs.Common.{◌≡◌, ◌++◌, Bool, List, map, take}
use Rattle.rela_nfa.specs.Stored.{move_of as edge_of}
use Rattle.rela_trans.specs.ImageMoves.{source_moves}
use Rattle.rela_trans.specs.declared.joint.JointMove.{JointMove}
use Rattle.rela_trans.proofs.image_pairs.add_silent.Given as goal

abbrev pub invariant-loop-edge : goal.invariant-loop-edge
invariant-loop-edge g l =
    l.followers.items ≡ l.fn.followers.items ++ map (λ (j : JointMove (List Bool)). j.to) (source_moves l.right (map (edge_of g.L.LabelSet.letters) (take l.edge-index l.edges)))
