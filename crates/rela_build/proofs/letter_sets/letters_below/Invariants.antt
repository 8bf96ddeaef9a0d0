use Rattle.std.proofs.Common.{◌≡◌, ◌<◌, ◌≤◌, length}
use Rattle.rela_labels.specs.Partition.{block_count}
use Rattle.rela_build.proofs.Gathered.{AreBlocksOf}
use Rattle.rela_build.proofs.letter_sets.letters_below.Given as goal

abbrev pub invariant-loop-s : goal.invariant-loop-s
invariant-loop-s l = record {
  end : l.end ≤ length l.blocks;
  size : length l.set ≡ block_count l.blocks;
  letters : AreBlocksOf l.blocks (λ s. s < l.s) l.set;
}
