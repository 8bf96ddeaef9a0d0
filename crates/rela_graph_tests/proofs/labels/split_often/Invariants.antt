use Rattle.std.proofs.Common.{◌≡◌, length}
use Rattle.rela_graph_tests.proofs.labels.split_often.Given as goal

abbrev pub invariant-loop : goal.invariant-loop
invariant-loop l = length l.splitter ≡ 3
