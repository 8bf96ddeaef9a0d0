use Rattle.rela_same_checks.proofs.Tables.{same_table}
use Rattle.rela_same_checks.proofs.same_check.same_classes.Goals as goal

pub returns : goal.returns
returns c = same_table c.args.one.now c.args.other.now c.eq.result c.eq.ensures
