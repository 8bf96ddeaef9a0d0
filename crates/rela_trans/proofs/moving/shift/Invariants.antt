use Rattle.std.proofs.Common.{◌≡◌, map, take, drop}
use Rattle.rela_trans.specs.Construction.{shifted}
use Rattle.rela_trans.specs.Stored.{move_of}
use Rattle.rela_trans.proofs.moving.shift.Given as goal

abbrev pub invariant-loop-edge : goal.invariant-loop-edge
invariant-loop-edge g l = record {
  done : map (move_of g.L.LabelSet.letters) (take l.edge-index l.moves) ≡ map (shifted l.by) (map (move_of g.L.LabelSet.letters) (take l.edge-index l.initial.moves));
  rest : drop l.edge-index l.moves ≡ drop l.edge-index l.initial.moves;
}
