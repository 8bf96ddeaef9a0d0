use Rattle.std.proofs.Common.{◌≡◌, ℕ, ◌<◌, ◌↔◌, length, take}
use Rattle.rela_labels.specs.Partition.{Together}
use Rattle.rela_build.specs.Lettering.{AreListedAlike}
use Rattle.rela_blocks.proofs.split.split_by_classes.Given as goal

abbrev pub invariant-loop-set : goal.invariant-loop-set
invariant-loop-set l = record {
  symbols : length l.splitter ≡ length l.fn.splitter;
  split : (s t : ℕ) → s < length l.fn.splitter → t < length l.fn.splitter →
      Together l.splitter s t ↔ (Together l.fn.splitter s t × AreListedAlike (take l.set-index l.classes) s t);
}
