use Rattle.std.proofs.Common.{◌+◌}
use Rattle.std.proofs.lemmas.Result.{err_from_is_err_and}
use Rattle.rela_engine.proofs.ComparedLetterPairs.{new_pairs}
use Rattle.rela_engine.proofs.letter_offence.first_new_word.Goals as goal

pub returns-in-None-clause-none : goal.returns-in-None-clause-none
returns-in-None-clause-none c = rw c.in-None.is at c.in_ok-first_difference.ensures.none

pub returns-in-Some-clause-first : goal.returns-in-Some-clause-first
returns-in-Some-clause-first c = rw c.in-Some.is at c.in_ok-first_difference.ensures.first

pub returns-in-Some-clause-side : goal.returns-in-Some-clause-side
returns-in-Some-clause-side c = (rw c.in-Some.is at c.in_ok-first_difference.ensures.first).member.0

pub returns-in_err-first_difference-clause-limit : goal.returns-in_err-first_difference-clause-limit
returns-in_err-first_difference-clause-limit c =
    let p = err_from_is_err_and c.from_residual.result c.from_residual.ensures.1 in
    rw (p.1, p.2) (λ is. new_pairs c.args.before.now c.args.after.now (c.args.states + 1) (c.in_err-first_difference.ensures.limit is))
