use Rattle.std.proofs.Common.{◌≡◌, ◌++◌, Bool, List, map, take}
use Rattle.std.specs.List.{flat_map}
use Rattle.rela_nfa.specs.Automaton.{moves_of as edges_of}
use Rattle.rela_nfa.specs.Stored.{move_of as edge_of}
use Rattle.rela_trans.specs.Composition.{second_moves}
use Rattle.rela_trans.specs.ImageMoves.{source_moves, read_moves}
use Rattle.rela_trans.specs.Machine.{moves_of}
use Rattle.rela_trans.specs.declared.joint.JointMove.{JointMove}
use Rattle.rela_trans.proofs.image_pairs.add_followers.Given as goal

abbrev pub invariant-loop-edge : goal.invariant-loop-edge
invariant-loop-edge g l =
    l.followers.items
    ≡ ((l.fn.followers.items ++ map (λ (j : JointMove (List Bool)). j.to) (source_moves l.fn.pair.right (edges_of l.fn.source l.fn.pair.left)))
    ++ map (λ (j : JointMove (List Bool)). j.to) (second_moves l.fn.pair.left (moves_of l.fn.transducer l.fn.pair.right)))
    ++ map (λ (j : JointMove (List Bool)). j.to) (flat_map (λ m. read_moves m (moves_of l.fn.transducer l.fn.pair.right)) (map (edge_of g.L.LabelSet.letters) (take l.edge-index l.edges)))
