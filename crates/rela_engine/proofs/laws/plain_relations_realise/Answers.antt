use Rattle.std.proofs.Common.{None, refl}
use Rattle.rela_report.specs.declared.rows.Side.TheVariants.{Before, After}
use Rattle.rela_translate.specs.Terms.{after_of, before_of}
use Rattle.rela_engine.specs.FlowMachines.{check_name}
use Rattle.rela_engine.specs.RowOf.{relation_of}
use Rattle.rela_engine.proofs.Rows.{plain_realises}
use Rattle.rela_engine.proofs.laws.plain_relations_realise.Goals as goal

pub returns-clause-before : goal.returns-clause-before
returns-clause-before c k relations are =
    plain_realises k.check k.locations k.blocks (before_of k.locations k.check.body) (relation_of Before k.check k.locations) relations.before.plain
    (c.terms_mean_the_body.ensures.before (check_name k.check k.locations None) k.locations k.check.body refl) are.before.plain

pub returns-clause-after : goal.returns-clause-after
returns-clause-after c k relations are =
    plain_realises k.check k.locations k.blocks (after_of k.locations k.check.body) (relation_of After k.check k.locations) relations.after.plain
    (c.terms_mean_the_body.ensures.after (check_name k.check k.locations None) k.locations k.check.body refl) are.after.plain
