use Rattle.std.proofs.Common.{◌+◌}
use Rattle.std.proofs.lemmas.Result.{err_from_is_err_and}
use Rattle.rela_engine.proofs.ComparedPairs.{pairs_of_both}
use Rattle.rela_engine.proofs.offence.first_difference.Goals as goal

pub returns-in-Same-clause-none : goal.returns-in-Same-clause-none
returns-in-Same-clause-none g c = c.in_ok-equal.ensures.same.0 c.in-Same.is

pub returns-in_err-equal-clause-limit : goal.returns-in_err-equal-clause-limit
returns-in_err-equal-clause-limit g c =
    let p = err_from_is_err_and c.from_residual.result c.from_residual.ensures.1 in
    rw (p.1, p.2) (λ is. pairs_of_both c.args.before.now c.args.after.now (c.args.states + 1) (c.in_err-equal.ensures.limit is))
