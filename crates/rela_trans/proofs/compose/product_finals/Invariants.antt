use Rattle.std.proofs.Common.{◌≡◌, map, take}
use Rattle.rela_trans.specs.Composition.{final_both}
use Rattle.rela_trans.proofs.compose.product_finals.Given as goal

abbrev pub invariant-loop-pair : goal.invariant-loop-pair
invariant-loop-pair g l = l.finals.items ≡ map (final_both l.first l.second) (take l.pair-index l.pairs)
