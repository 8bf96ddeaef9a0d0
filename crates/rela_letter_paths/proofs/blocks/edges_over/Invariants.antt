use Rattle.std.proofs.Common.{◌≡◌, [], map, take}
use Rattle.rela_labels.specs.Partition.{block_of}
use Rattle.rela_letter_paths.specs.Letters.{renamed_edge}
use Rattle.rela_letter_paths.proofs.blocks.edges_over.Given as goal

abbrev pub invariant-loop-q : goal.invariant-loop-q
invariant-loop-q l = l.lists ≡ (map (map (renamed_edge (block_of l.blocks))) (take l.q l.paths.edges), [])
