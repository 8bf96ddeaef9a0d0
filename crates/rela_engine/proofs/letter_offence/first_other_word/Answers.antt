use Rattle.std.proofs.Common.{◌+◌}
use Rattle.std.proofs.lemmas.Result.{err_from_is_err_and}
use Rattle.rela_engine.proofs.ComparedLetterPairs.{pairs_of_both}
use Rattle.rela_engine.proofs.letter_offence.first_other_word.Goals as goal

pub returns-in-None-clause-none : goal.returns-in-None-clause-none
returns-in-None-clause-none c = rw c.in-None.is at c.in_ok-first_difference.ensures.none

pub returns-in_err-first_difference-clause-limit : goal.returns-in_err-first_difference-clause-limit
returns-in_err-first_difference-clause-limit c =
    let p = err_from_is_err_and c.from_residual.result c.from_residual.ensures.1 in
    rw (p.1, p.2) (λ is. pairs_of_both c.args.before.now c.args.after.now (c.args.states + 1) (c.in_err-first_difference.ensures.limit is))
