use Rattle.std.proofs.Common.{◌≡◌, map, take}
use Rattle.rela_trans.specs.ImageMoves.{final_image}
use Rattle.rela_trans.proofs.image_edges.image_finals.Given as goal

abbrev pub invariant-loop-pair : goal.invariant-loop-pair
invariant-loop-pair g l = l.finals.items ≡ map (final_image l.source l.transducer) (take l.pair-index l.pairs)
