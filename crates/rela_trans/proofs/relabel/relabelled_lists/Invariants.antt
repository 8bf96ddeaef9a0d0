use Rattle.std.proofs.Common.{◌≡◌, map, take}
use Rattle.rela_trans.specs.Relabelling.{relabelled_move}
use Rattle.rela_trans.specs.Stored.{moves_in}
use Rattle.rela_trans.proofs.relabel.relabelled_lists.Given as goal

abbrev pub invariant-loop-moves : goal.invariant-loop-moves
invariant-loop-moves g l = moves_in g.M.LabelSet.letters l.new.items ≡ map (map (relabelled_move l.parents)) (moves_in g.L.LabelSet.letters (take l.moves-index l.lists))
