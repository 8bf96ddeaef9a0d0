use Rattle.std.proofs.Common.{◌≡◌, map}
use Rattle.std.specs.List.{range_with_len}
use Rattle.rela_trans.specs.Composition.{product_moves_at}
use Rattle.rela_trans.specs.Stored.{moves_in}
use Rattle.rela_trans.proofs.compose.product_moves.Given as goal

abbrev pub invariant-loop-number : goal.invariant-loop-number
invariant-loop-number g l = moves_in g.L.LabelSet.letters l.moves.items ≡ map (product_moves_at l.first l.second l.explored) (range_with_len 0 l.number)
