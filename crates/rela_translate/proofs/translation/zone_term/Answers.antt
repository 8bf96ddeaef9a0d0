use Rattle.std.specs.Prelude.{length}
use Rattle.rela_translate.proofs.Meanings.{zone_told}
use Rattle.rela_translate.proofs.translation.zone_term.Goals as goal

pub returns-clause-zone : goal.returns-clause-zone
returns-clause-zone c =
    zone_told c.args.check.now.classes (length c.args.alphabet.now) c.args.check.now.body c.body.result.now c.zone_of.result
    c.body.ensures.body c.zone_of.ensures
