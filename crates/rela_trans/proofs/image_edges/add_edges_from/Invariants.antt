use Rattle.std.proofs.Common.{◌≡◌, [], map, take}
use Rattle.std.specs.List.{flat_map}
use Rattle.rela_nfa.specs.Automaton.{moves_of as edges_of}
use Rattle.rela_nfa.specs.Directing.{extended, silent_labels}
use Rattle.rela_nfa.specs.Stored.{move_of as edge_of}
use Rattle.rela_trans.specs.ImageMoves.{alone_labels, read_labels}
use Rattle.rela_trans.specs.Machine.{moves_of}
use Rattle.rela_trans.proofs.image_edges.add_edges_from.Given as goal

abbrev pub invariant-loop-edge : goal.invariant-loop-edge
invariant-loop-edge g l =
    map (edge_of g.L.LabelSet.letters) l.edges.items
    ≡ extended (extended (extended [] (silent_labels (edges_of l.fn.source l.fn.pair.left)) l.targets) (alone_labels (moves_of l.fn.transducer l.fn.pair.right)) l.targets)
    (flat_map (λ m. read_labels m.label (moves_of l.fn.transducer l.fn.pair.right)) (map (edge_of g.L.LabelSet.letters) (take l.edge-index l.sources))) l.targets
