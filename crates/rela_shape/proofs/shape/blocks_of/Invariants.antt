use Rattle.std.proofs.Common.{◌≡◌, map, take}
use Rattle.rela_labels.specs.Partition.{block_of}
use Rattle.rela_shape.proofs.shape.blocks_of.Given as goal

abbrev pub invariant-loop-place : goal.invariant-loop-place
invariant-loop-place l = l.found.items ≡ map (block_of l.blocks) (take l.place-index l.places)
