use Rattle.std.proofs.Common.{arith}
use Rattle.rela_prefixes.proofs.Cells.{middle_fits}
use Rattle.rela_prefixes.proofs.leaves.middle_of.Goals as goal

pub overflow_add-result : goal.overflow_add-result
overflow_add-result c = omega (arith, middle_fits c.args.cell.now c.if-cell-lt32.true)
