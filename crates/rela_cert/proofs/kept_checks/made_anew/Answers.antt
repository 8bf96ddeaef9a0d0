use Rattle.std.proofs.lemmas.Result.{err_from_is_err_and}
use Rattle.rela_cert.proofs.kept_checks.made_anew.Goals as goal

pub returns-in_err-relations-clause-limit : goal.returns-in_err-relations-clause-limit
returns-in_err-relations-clause-limit c =
    let p = err_from_is_err_and c.from_residual.result c.from_residual.ensures.1 in
    rw (p.1, p.2) (λ is. c.in_err-relations.ensures.limit is)

pub returns-in_err-relations-clause-refused : goal.returns-in_err-relations-clause-refused
returns-in_err-relations-clause-refused c =
    let p = err_from_is_err_and c.from_residual.result c.from_residual.ensures.1 in
    rw (p.1, p.2) (λ number is. c.in_err-relations.ensures.refused number is)
