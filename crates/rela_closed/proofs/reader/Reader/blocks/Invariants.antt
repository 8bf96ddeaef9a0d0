use Rattle.std.proofs.Common.{◌≡◌, length, map}
use Rattle.rela_closed.proofs.LedAlike.{AllSorted}
use Rattle.rela_closed.proofs.reader.Reader.blocks.Given as goal

abbrev pub invariant-loop-i : goal.invariant-loop-i
invariant-loop-i g l = record {
  size : length l.labels.alone ≡ length (g.L.LabelSet.letters l.over);
  sorted : AllSorted (g.L.LabelSet.letters l.over) l.labels l.self (map (λ set. set.items) l.sets) l.i;
}
