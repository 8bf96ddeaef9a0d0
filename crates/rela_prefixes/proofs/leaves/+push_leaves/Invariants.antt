use Rattle.std.proofs.Common.{◌-◌}
use Rattle.rela_prefixes.proofs.leaves.+push_leaves.Given as goal

abbrev pub decreases-push_leaves : goal.decreases-push_leaves
decreases-push_leaves l = 32 - l.cell.length
