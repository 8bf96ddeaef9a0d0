use Rattle.rela_plan.proofs.Selections.{IsSofar}
use Rattle.rela_plan.proofs.known.asked_one_by_one.Given as goal

-- the flows so far that the predicate selects
abbrev pub invariant-loop-place : goal.invariant-loop-place
invariant-loop-place l = IsSofar l.block l.asked l.predicate l.left l.flows

-- the sets of those that are left are ever smaller numbers
abbrev pub decreases-loop-place : goal.decreases-loop-place
decreases-loop-place l = l.left
