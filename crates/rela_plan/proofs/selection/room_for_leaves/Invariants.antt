use Rattle.std.proofs.Common.{◌<◌}
use Rattle.rela_plan.proofs.selection.room_for_leaves.Given as goal

abbrev pub invariant-loop-check : goal.invariant-loop-check
invariant-loop-check l = 0 < l.room
