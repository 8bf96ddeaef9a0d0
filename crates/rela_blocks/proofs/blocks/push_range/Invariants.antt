use Rattle.std.proofs.Common.{◌≡◌, ◌++◌}
use Rattle.std.specs.List.{range_with_len}
use Rattle.rela_blocks.proofs.blocks.push_range.Given as goal

abbrev pub invariant-loop-k : goal.invariant-loop-k
invariant-loop-k l = l.symbols.items ≡ l.fn.symbols.items ++ range_with_len l.first l.k
