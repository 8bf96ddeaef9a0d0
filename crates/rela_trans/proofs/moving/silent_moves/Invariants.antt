use Rattle.std.proofs.Common.{◌≡◌, map, take}
use Rattle.rela_trans.specs.Construction.{silent}
use Rattle.rela_trans.specs.Stored.{move_of}
use Rattle.rela_trans.proofs.moving.silent_moves.Given as goal

abbrev pub invariant-loop-to : goal.invariant-loop-to
invariant-loop-to g l = map (move_of g.L.LabelSet.letters) l.moves.items ≡ map silent (take l.to-index l.ends)
