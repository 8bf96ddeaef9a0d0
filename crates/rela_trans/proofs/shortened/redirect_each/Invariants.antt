use Rattle.std.proofs.Common.{◌≡◌, map, take, drop}
use Rattle.rela_trans.specs.Detours.{redirected}
use Rattle.rela_trans.specs.Stored.{moves_in}
use Rattle.rela_trans.proofs.shortened.redirect_each.Given as goal

abbrev pub invariant-loop-moves : goal.invariant-loop-moves
invariant-loop-moves g l = record {
  done : moves_in g.L.LabelSet.letters (take l.moves-index l.lists) ≡ map (map (redirected l.ends)) (moves_in g.L.LabelSet.letters (take l.moves-index l.initial.lists));
  rest : drop l.moves-index l.lists ≡ drop l.moves-index l.initial.lists;
}
