use Rattle.std.proofs.Common.{◌≡◌, ℕ, ◌<◌, ◌≤◌, false, length, slice_index}
use Rattle.rela_labels.specs.Letters.{has}
use Rattle.rela_nfa.proofs.relabel.relabelled_set.Given as goal

abbrev pub invariant-loop-block : goal.invariant-loop-block
invariant-loop-block g l = record {
  size : length (g.M.LabelSet.letters l.new) ≡ length l.parents;
  done : (k : ℕ) → k < l.block → has (g.M.LabelSet.letters l.new) k ≡ has (g.L.LabelSet.letters l.set) (slice_index l.parents k);
  rest : (k : ℕ) → l.block ≤ k → has (g.M.LabelSet.letters l.new) k ≡ false;
}
