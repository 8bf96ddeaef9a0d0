use Rattle.std.proofs.Common.{◌≡◌, ◌<◌, length, take}
use Rattle.std.specs.List.{All}
use Rattle.std.specs.Prelude.{Contains}
use Rattle.rela_labels.specs.Partition.{block_count}
use Rattle.rela_build.proofs.Gathered.{AreBlocksOf}
use Rattle.rela_build.proofs.letter_sets.letters_of.Given as goal

abbrev pub invariant-loop-s : goal.invariant-loop-s
invariant-loop-s l = record {
  symbols : All (λ s. s < length l.blocks) l.symbols;
  size : length l.set ≡ block_count l.blocks;
  letters : AreBlocksOf l.blocks (Contains (take l.s-index l.symbols)) l.set;
}
