use Rattle.std.proofs.Common.{◌≡◌}
use Rattle.rela_branches.specs.Walks.{singles}
use Rattle.rela_branches.proofs.each.singles.Given as goal

abbrev pub invariant-loop-place : goal.invariant-loop-place
invariant-loop-place l = l.sets.items ≡ singles l.place
