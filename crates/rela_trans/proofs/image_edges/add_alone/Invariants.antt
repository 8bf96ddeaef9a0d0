use Rattle.std.proofs.Common.{◌≡◌, map, take}
use Rattle.rela_nfa.specs.Directing.{extended}
use Rattle.rela_nfa.specs.Stored.{move_of as edge_of}
use Rattle.rela_trans.specs.ImageMoves.{alone_labels}
use Rattle.rela_trans.specs.Stored.{move_of}
use Rattle.rela_trans.proofs.image_edges.add_alone.Given as goal

abbrev pub invariant-loop-second : goal.invariant-loop-second
invariant-loop-second g l =
    map (edge_of g.L.LabelSet.letters) l.edges.items
    ≡ extended (map (edge_of g.L.LabelSet.letters) l.fn.edges.items) (alone_labels (map (move_of g.L.LabelSet.letters) (take l.second-index l.moves))) l.targets
