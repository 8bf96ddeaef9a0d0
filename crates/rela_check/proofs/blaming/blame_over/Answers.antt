use Rattle.std.proofs.Common.{◌≡◌, Err, arith}
use Rattle.rela_locations.specs.Network.{alphabet_of}
use Rattle.rela_inputs.specs.Specified.{specified_by}
use Rattle.rela_inputs.specs.Answer.{answer_by}
use Rattle.rela_inputs.specs.Specifications.{written_by}
use Rattle.rela_check.proofs.BlameLaws.{asked_stopped, pairs_stopped, reported_or_memory, written_stopped}
use Rattle.rela_check.proofs.CheckLaws.{are_checks}
use Rattle.rela_check.proofs.blaming.blame_over.Goals as goal

pub returns-in_err-pairs-clause-given : goal.returns-in_err-pairs-clause-given
returns-in_err-pairs-clause-given g c =
    let fault : c.from_residual.result ≡ Err c.in_err-pairs.field-0.0 = grind arith in
    rw fault (pairs_stopped _ _ (c.steps_chain.ensures _ _) _ _ _ _ _ _ c.in_err-pairs.field-0.0 c.in_err-pairs.ensures.given)

pub returns-in_err-pairs-clause-ends : goal.returns-in_err-pairs-clause-ends
returns-in_err-pairs-clause-ends g c =
    let fault : c.from_residual.result ≡ Err c.in_err-pairs.field-0.0 = grind arith in
    rw fault (record { ok_keeps_count = tt; ok_given = tt; halts = c.in_err-pairs.ensures.ends.halts })

pub returns-in_err-pairs-2-clause-given : goal.returns-in_err-pairs-2-clause-given
returns-in_err-pairs-2-clause-given g c =
    let fault : c.from_residual-in_err-pairs-2.result ≡ Err c.in_err-pairs-2.field-0.0 = grind arith in
    let written = rw (c.in_ok-pairs.ensures.same_holds, c.in_ok-pairs.ensures.same_steady) at c.in_err-pairs-2.ensures.given in
    rw fault (written_stopped _ _ (c.steps_chain.ensures _ _) _ _ _ _ _ _ c.in_ok-pairs.pairs.items c.in_err-pairs-2.field-0.0 c.in_ok-pairs.ensures.given written)

pub returns-in_err-pairs-3-clause-given : goal.returns-in_err-pairs-3-clause-given
returns-in_err-pairs-3-clause-given g c =
    let fault : c.from_residual-in_err-pairs-3.result ≡ Err c.in_err-pairs-3.field-0.0 = grind arith in
    let written = rw (c.in_ok-pairs.ensures.same_holds, c.in_ok-pairs.ensures.same_steady) at c.in_ok-pairs-2.ensures.given in
    rw fault (asked_stopped _ _ (c.steps_chain.ensures _ _) _ _ _ _ _ _ c.in_ok-pairs.pairs.items (written_by c.in_ok-pairs-2.written) c.in_err-pairs-3.field-0.0 c.in_ok-pairs.ensures.given written c.in_err-pairs-3.ensures.asked)

pub blame-requires-clause-checks : goal.blame-requires-clause-checks
blame-requires-clause-checks g c =
    let level = c.in_ok-pairs-3.asked.level in
    rw (c.deref.ensures.value, c.in_ok-pairs-3.ensures.same, c.in_ok-pairs-2.ensures.same)
    (are_checks (alphabet_of level c.args.locations.now) c.in_ok-pairs.pairs.items level c.in_ok-pairs-3.asked.checks.items (c.in_ok-pairs.ensures.located level) c.in_ok-pairs-3.ensures.levels
    c.in_ok-pairs-3.ensures.listed)

pub returns-clause-given : goal.returns-clause-given
returns-clause-given g c =
    let written = rw (c.in_ok-pairs.ensures.same_holds, c.in_ok-pairs.ensures.same_steady) at c.in_ok-pairs-2.ensures.given in
    let reports = rw (c.deref.ensures.value, c.in_ok-pairs-3.ensures.same, c.in_ok-pairs-2.ensures.same, c.in_ok-pairs-3.ensures.same_written) at c.blame.ensures.reports in
    reported_or_memory _ _ (c.steps_chain.ensures _ _) _ _ _ _ _ c.same_changes_agree.ensures.names c.same_changes_agree.ensures.rows c.args.locations.now c.in_ok-pairs.pairs.items (written_by c.in_ok-pairs-2.written)
    (specified_by c.in_ok-pairs-3.asked) _ answer_by c.blame.result reports c.blame.ensures.memory c.in_ok-pairs.ensures.given written c.in_ok-pairs-3.ensures.asked
