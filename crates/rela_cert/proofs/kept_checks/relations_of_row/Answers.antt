use Rattle.std.proofs.Common.{length}
use Rattle.std.proofs.lemmas.Result.{IfOk-weaker}
use Rattle.rela_cert.proofs.kept_checks.relations_of_row.Goals as goal

pub returns-else-have_same_complements-clause-kept : goal.returns-else-have_same_complements-clause-kept
returns-else-have_same_complements-clause-kept c =
    IfOk-weaker c.made_anew.result _ _ (λ one kept. kept (length c.args.certificate.now) c.requires.number) c.made_anew.ensures.kept

pub returns-in_ok-parts-in-None-clause-kept : goal.returns-in_ok-parts-in-None-clause-kept
returns-in_ok-parts-in-None-clause-kept c =
    IfOk-weaker c.made_anew-in-None.result _ _ (λ one kept. kept (length c.args.certificate.now) c.requires.number) c.made_anew-in-None.ensures.kept
