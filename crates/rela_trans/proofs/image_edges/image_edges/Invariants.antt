use Rattle.std.proofs.Common.{◌≡◌, [], map}
use Rattle.std.specs.List.{range_with_len}
use Rattle.rela_trans.specs.Composition.{product_moves_at}
use Rattle.rela_trans.specs.ImageMoves.{source_of}
use Rattle.rela_trans.specs.Images.{written_edges}
use Rattle.rela_trans.proofs.image_edges.image_edges.Given as goal

abbrev pub invariant-loop-number : goal.invariant-loop-number
invariant-loop-number g l =
    (l.leaving.items ≡ []) × (l.edges ≡ map written_edges (map (product_moves_at (source_of l.source) l.transducer l.explored) (range_with_len 0 l.number)))
