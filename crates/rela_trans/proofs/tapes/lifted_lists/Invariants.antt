use Rattle.std.proofs.Common.{◌≡◌, map}
use Rattle.std.specs.List.{range_with_len}
use Rattle.rela_trans.specs.Stored.{moves_in}
use Rattle.rela_trans.specs.Tapes.{lifted_at}
use Rattle.rela_trans.proofs.tapes.lifted_lists.Given as goal

abbrev pub invariant-loop-q : goal.invariant-loop-q
invariant-loop-q g l = moves_in g.L.LabelSet.letters l.moves.items ≡ map (lifted_at l.tape l.a) (range_with_len 0 l.q)
