use Rattle.std.proofs.Common.{◌≡◌, length, take}
use Rattle.rela_subset.proofs.ByLetter.{AreLetters}
use Rattle.rela_subset.proofs.letter_edge.letters_of.Given as goal

abbrev pub invariant-loop-edge : goal.invariant-loop-edge
invariant-loop-edge g l = record {
  size : length (g.L.LabelSet.letters l.set) ≡ l.size;
  letters : AreLetters (take l.edge-index l.edges) (g.L.LabelSet.letters l.set);
}
