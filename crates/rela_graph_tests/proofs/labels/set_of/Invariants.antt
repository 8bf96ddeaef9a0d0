use Rattle.std.proofs.Common.{◌≡◌, length}
use Rattle.rela_graph_tests.proofs.labels.set_of.Given as goal

abbrev pub invariant-loop-letter : goal.invariant-loop-letter
invariant-loop-letter g l = length (g.L.LabelSet.letters l.set) ≡ l.size
