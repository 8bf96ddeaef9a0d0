use Rattle.std.proofs.Common.{◌≡◌, map, take}
use Rattle.rela_trans.specs.Construction.{turned_move}
use Rattle.rela_trans.specs.Stored.{moves_in}
use Rattle.rela_trans.proofs.inverse.turned_lists.Given as goal

abbrev pub invariant-loop-moves : goal.invariant-loop-moves
invariant-loop-moves g l = moves_in g.L.LabelSet.letters l.new.items ≡ map (map turned_move) (moves_in g.L.LabelSet.letters (take l.moves-index l.lists))
