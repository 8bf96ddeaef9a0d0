use Rattle.std.proofs.Common.{◌≡◌, ◌++◌, map, take}
use Rattle.std.specs.List.{flat_map}
use Rattle.rela_nfa.specs.Stored.{move_of as edge_of}
use Rattle.rela_trans.specs.Machine.{moves_of}
use Rattle.rela_trans.specs.Reached.{alone_pairs, edge_pairs}
use Rattle.rela_trans.proofs.reading_finer.add_followers.Given as goal

abbrev pub invariant-loop-edge : goal.invariant-loop-edge
invariant-loop-edge g l =
    l.followers.items
    ≡ (l.fn.followers.items ++ alone_pairs l.fn.pair.left (moves_of l.fn.transducer l.fn.pair.right))
    ++ flat_map (edge_pairs l.fn.parents l.fn.pair.right (moves_of l.fn.transducer l.fn.pair.right)) (map (edge_of g.M.LabelSet.letters) (take l.edge-index l.edges))
