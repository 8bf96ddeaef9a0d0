use Rattle.std.proofs.Common.{◌≡◌, map, take}
use Rattle.rela_trans.specs.Construction.{turned_move}
use Rattle.rela_trans.specs.Stored.{move_of}
use Rattle.rela_trans.proofs.inverse.turned_moves.Given as goal

abbrev pub invariant-loop-edge : goal.invariant-loop-edge
invariant-loop-edge g l = map (move_of g.L.LabelSet.letters) l.new.items ≡ map turned_move (map (move_of g.L.LabelSet.letters) (take l.edge-index l.moves))
