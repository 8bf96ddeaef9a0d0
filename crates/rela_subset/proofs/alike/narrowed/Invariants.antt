use Rattle.std.proofs.Common.{◌≡◌, length}
use Rattle.rela_nfa.specs.Stored.{move_of}
use Rattle.rela_subset.proofs.Narrowing.{IsNarrowed}
use Rattle.rela_subset.proofs.alike.narrowed.Given as goal

abbrev pub invariant-loop-edge : goal.invariant-loop-edge
invariant-loop-edge g l = record {
  size : length (g.L.LabelSet.letters l.narrow) ≡ length (g.L.LabelSet.letters l.fn.block);
  alike : IsNarrowed (λ edge. move_of g.L.LabelSet.letters edge.now) l.edges l.letter (g.L.LabelSet.letters l.fn.block) l.edge-index (g.L.LabelSet.letters l.narrow);
}
