use Rattle.rela_engine.proofs.EdgesInTurn.{IsLedBelow}
use Rattle.rela_engine.proofs.letter_targets.lead_along.Given as goal

abbrev pub invariant-loop-letter : goal.invariant-loop-letter
invariant-loop-letter l = IsLedBelow l.label l.edge.to l.initial.targets l.letter l.targets
