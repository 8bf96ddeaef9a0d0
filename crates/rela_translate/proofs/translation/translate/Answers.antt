use Rattle.std.specs.Prelude.{length}
use Rattle.rela_translate.proofs.Meanings.{before_told, after_told}
use Rattle.rela_translate.proofs.translation.translate.Goals as goal

pub returns-clause-before : goal.returns-clause-before
returns-clause-before c u v =
    before_told c.args.check.now.classes (length c.args.alphabet.now) c.args.check.now.body c.body-body.result.now c.in_ok-before_of.field-0
    c.body-body.ensures.body c.in_ok-before_of.ensures u v

pub returns-clause-after : goal.returns-clause-after
returns-clause-after c u v =
    after_told c.args.check.now.classes (length c.args.alphabet.now) c.args.check.now.body c.body-body.result.now c.in_ok-after_of.field-0
    c.body-body.ensures.body c.in_ok-after_of.ensures u v
