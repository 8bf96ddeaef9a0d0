use Rattle.std.proofs.Common.{◌≡◌, map, take}
use Rattle.rela_labels.specs.Partition.{block_of}
use Rattle.rela_engine.proofs.decision.blocks_of_each.Given as goal

abbrev pub invariant-loop-s : goal.invariant-loop-s
invariant-loop-s l = l.found.items ≡ map (block_of l.blocks) (take l.s-index l.symbols)
