use Rattle.std.proofs.Common.{◌≡◌, ◌++◌, Bool, List, map, take}
use Rattle.rela_nfa.specs.Stored.{move_of as edge_of}
use Rattle.rela_trans.specs.ImageMoves.{read_moves}
use Rattle.rela_trans.specs.Stored.{move_of}
use Rattle.rela_trans.specs.declared.joint.JointMove.{JointMove}
use Rattle.rela_trans.proofs.image_pairs.add_read.Given as goal

abbrev pub invariant-loop-second : goal.invariant-loop-second
invariant-loop-second g l =
    l.followers.items
    ≡ l.fn.followers.items ++ map (λ (j : JointMove (List Bool)). j.to) (read_moves (edge_of g.L.LabelSet.letters l.edge) (map (move_of g.L.LabelSet.letters) (take l.second-index l.moves)))
