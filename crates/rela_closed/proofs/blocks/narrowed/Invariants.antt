use Rattle.std.proofs.Common.{◌≡◌, length}
use Rattle.rela_closed.proofs.Narrowing.{IsNarrowed}
use Rattle.rela_closed.proofs.blocks.narrowed.Given as goal

abbrev pub invariant-loop-label : goal.invariant-loop-label
invariant-loop-label g l = record {
  size : length (g.L.LabelSet.letters l.block) ≡ length (g.L.LabelSet.letters l.set);
  together : IsNarrowed (λ label. g.L.LabelSet.letters label.now) l.labels l.letter (g.L.LabelSet.letters l.set) l.label-index (g.L.LabelSet.letters l.block);
}
