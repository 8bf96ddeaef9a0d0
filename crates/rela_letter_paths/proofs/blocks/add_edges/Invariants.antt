use Rattle.std.proofs.Common.{◌≡◌, ◌++◌, map, take}
use Rattle.rela_labels.specs.Partition.{block_of}
use Rattle.rela_letter_paths.specs.Letters.{renamed_edge}
use Rattle.rela_letter_paths.proofs.blocks.add_edges.Given as goal

abbrev pub invariant-loop-edge : goal.invariant-loop-edge
invariant-loop-edge l = l.lists ≡ (l.fn.lists.0, l.fn.lists.1 ++ map (renamed_edge (block_of l.blocks)) (take l.edge-index l.edges))
