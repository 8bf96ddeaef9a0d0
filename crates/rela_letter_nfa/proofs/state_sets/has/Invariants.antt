use Rattle.std.proofs.Common.{length}
use Rattle.rela_letter_nfa.specs.Buckets.{sets_at}
use Rattle.rela_letter_nfa.proofs.Bucketing.{IsSeeking}
use Rattle.rela_letter_nfa.proofs.state_sets.has.Given as goal

abbrev pub invariant-loop-at : goal.invariant-loop-at
invariant-loop-at l = IsSeeking (sets_at l.items l.placed) (length l.lasts) l.set l.at

abbrev pub decreases-loop-at : goal.decreases-loop-at
decreases-loop-at l = l.at
