use Rattle.std.proofs.Common.{length}
use Rattle.std.specs.List.{All}
use Rattle.rela_engine.proofs.EdgesInTurn.{AreLed, IsSized}
use Rattle.rela_engine.proofs.letter_targets.letter_targets.Given as goal

abbrev pub invariant-loop-last : goal.invariant-loop-last
invariant-loop-last l = record {
  led : AreLed l.dfa l.q l.edges l.targets.items;
  sized : All (IsSized (length l.dfa.over)) l.edges;
}

abbrev pub decreases-loop-last : goal.decreases-loop-last
decreases-loop-last l = length l.edges
