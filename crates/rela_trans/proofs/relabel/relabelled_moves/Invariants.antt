use Rattle.std.proofs.Common.{◌≡◌, map, take}
use Rattle.rela_trans.specs.Relabelling.{relabelled_move}
use Rattle.rela_trans.specs.Stored.{move_of}
use Rattle.rela_trans.proofs.relabel.relabelled_moves.Given as goal

abbrev pub invariant-loop-edge : goal.invariant-loop-edge
invariant-loop-edge g l = map (move_of g.M.LabelSet.letters) l.new.items ≡ map (relabelled_move l.parents) (map (move_of g.L.LabelSet.letters) (take l.edge-index l.moves))
