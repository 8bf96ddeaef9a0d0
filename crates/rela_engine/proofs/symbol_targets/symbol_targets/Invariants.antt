use Rattle.std.proofs.Common.{◌≡◌, get_or, map}
use Rattle.std.specs.List.{range_with_len}
use Rattle.rela_labels.specs.Partition.{block_of}
use Rattle.rela_engine.proofs.symbol_targets.symbol_targets.Given as goal

abbrev pub invariant-loop-s : goal.invariant-loop-s
invariant-loop-s l = l.row.items ≡ map (λ s. get_or l.by_letter (block_of l.blocks s) 0) (range_with_len 0 l.s)
