use Rattle.std.proofs.Common.{◌≡◌, ℕ, ◌<◌, length, slice_index, vec_len}
use Rattle.rela_labels.specs.Partition.{block_of}
use Rattle.rela_nfa.proofs.relabel.parents_of.Given as goal

abbrev pub invariant-loop-block : goal.invariant-loop-block
invariant-loop-block l = record {
  len : vec_len l.parents ≡ l.block;
  parents : (s : ℕ) → s < length l.fine → block_of l.fine s < l.block → slice_index l.parents.items (block_of l.fine s) ≡ block_of l.coarse s;
}
