use Rattle.std.proofs.Common.{◌+◌}
use Rattle.std.proofs.lemmas.Result.{err_from_is_err_and}
use Rattle.rela_engine.proofs.ComparedPairs.{new_pairs}
use Rattle.rela_engine.proofs.offence.first_new.Goals as goal

pub returns-in-Same-clause-none : goal.returns-in-Same-clause-none
returns-in-Same-clause-none g c = c.in_ok-included.ensures.same.0 c.in-Same.is

pub returns-in_err-included-clause-limit : goal.returns-in_err-included-clause-limit
returns-in_err-included-clause-limit g c =
    let p = err_from_is_err_and c.from_residual.result c.from_residual.ensures.1 in
    rw (p.1, p.2) (λ is. new_pairs c.args.before.now c.args.after.now (c.args.states + 1) c.requires (c.in_err-included.ensures.limit is))
