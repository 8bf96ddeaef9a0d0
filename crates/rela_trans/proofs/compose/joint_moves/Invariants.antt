use Rattle.std.proofs.Common.{◌≡◌, ◌++◌, map, take}
use Rattle.std.specs.List.{flat_map}
use Rattle.rela_trans.specs.Composition.{joint_of, first_moves, second_moves, moves_with}
use Rattle.rela_trans.specs.Machine.{moves_of}
use Rattle.rela_trans.specs.Stored.{move_of}
use Rattle.rela_trans.proofs.compose.joint_moves.Given as goal

abbrev pub invariant-loop-made : goal.invariant-loop-made
invariant-loop-made g l =
    map (joint_of g.L.LabelSet.letters) l.joint.items
    ≡ first_moves l.fn.pair.right (moves_of l.fn.first l.fn.pair.left) ++ second_moves l.fn.pair.left (moves_of l.fn.second l.fn.pair.right)
    ++ flat_map (λ m. moves_with m (moves_of l.fn.second l.fn.pair.right)) (map (move_of g.L.LabelSet.letters) (take l.made-index l.left))
