use Rattle.rela_restriction.proofs.MovedSets.{IsMoving}
use Rattle.rela_restriction.proofs.moved.moved.Given as goal

abbrev pub invariant-loop-letter : goal.invariant-loop-letter
invariant-loop-letter g l = IsMoving l.size l.by (g.L.LabelSet.letters l.set) (g.L.LabelSet.letters l.made) l.letter
