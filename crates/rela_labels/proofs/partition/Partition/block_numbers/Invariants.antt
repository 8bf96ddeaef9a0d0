use Rattle.std.proofs.Common.{◌≡◌, ℕ, ◌<◌, length, get_or}
use Rattle.rela_labels.proofs.partition.Partition.block_numbers.Given as goal

abbrev pub invariant-loop-s : goal.invariant-loop-s
invariant-loop-s l = record {
  len : length l.blocks.items ≡ l.s;
  each : (k : ℕ) → k < l.s → get_or l.blocks.items k 0 ≡ get_or l.self k 0;
}
