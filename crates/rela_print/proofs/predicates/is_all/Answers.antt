use Rattle.std.proofs.Common.{sym}
use Rattle.rela_print.proofs.PrintedPredicates.{others_are_not_all}
use Rattle.rela_print.proofs.predicates.is_all.Goals as goal

pub returns-in_default : goal.returns-in_default
returns-in_default c = sym (others_are_not_all c.args.predicate.now c.in_default.not-All)
