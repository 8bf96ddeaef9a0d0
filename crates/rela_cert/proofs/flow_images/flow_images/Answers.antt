use Rattle.std.proofs.lemmas.Result.{err_from_is_err_and}
use Rattle.rela_cert.proofs.flow_images.flow_images.Goals as goal

pub returns-in_err-before-clause-limit : goal.returns-in_err-before-clause-limit
returns-in_err-before-clause-limit c =
    let p = err_from_is_err_and c.from_residual.result c.from_residual.ensures.1 in
    rw (p.1, p.2) (λ is. c.in_err-before.ensures.limit is)

pub returns-in_err-after-clause-limit : goal.returns-in_err-after-clause-limit
returns-in_err-after-clause-limit c =
    let p = err_from_is_err_and c.from_residual-in_err-after.result c.from_residual-in_err-after.ensures.1 in
    rw (p.1, p.2) (λ is. c.in_err-after.ensures.limit is)
