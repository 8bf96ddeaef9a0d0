use Rattle.std.proofs.Common.{◌≡◌, ◌≤◌, map, take, drop, length, reverse, vec_len}
use Rattle.rela_trans.specs.Composition.{joint_of, numbered}
use Rattle.rela_trans.specs.Stored.{move_of}
use Rattle.rela_trans.proofs.compose.numbered_moves.Given as goal

abbrev pub invariant-loop-made : goal.invariant-loop-made
invariant-loop-made g l = record {
  left : l.joint.items ≡ take (vec_len l.joint) l.fn.joint.items;
  within : vec_len l.joint ≤ length l.fn.joint.items;
  done :
      map (move_of g.L.LabelSet.letters) l.moves.items
      ≡ reverse (numbered (map (joint_of g.L.LabelSet.letters) (drop (vec_len l.joint) l.fn.joint.items)) (drop (vec_len l.joint) l.targets));
}

abbrev pub decreases-loop-made : goal.decreases-loop-made
decreases-loop-made g l = vec_len l.joint
