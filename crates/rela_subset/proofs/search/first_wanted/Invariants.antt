use Rattle.std.proofs.Common.{ℕ, ◌<◌, ◌≤◌, [], get_or}
use Rattle.rela_subset.proofs.search.first_wanted.Given as goal

abbrev pub invariant-loop-number : goal.invariant-loop-number
invariant-loop-number g l = (i : ℕ) → l.from ≤ i → i < l.number → ¬ g.W.Wanted.wants l.wanted (get_or l.sets i [])
