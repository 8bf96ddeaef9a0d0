use Rattle.std.proofs.Common.{◌≡◌, Ok, Err, arith}
use Rattle.rela_inputs.specs.Answer.{answer_by}
use Rattle.rela_inputs.specs.Loaded.{loaded_by}
use Rattle.rela_inputs.specs.declared.reading.Halt.TheVariants.{Memory}
use Rattle.rela_check.specs.Checks.{ReportsBy}
use Rattle.rela_check.proofs.Points.{at_change}
use Rattle.rela_check.proofs.reporting.report.Goals as goal

pub returns-in_err-loaded-clause-given : goal.returns-in_err-loaded-clause-given
unfolding ReportsBy
returns-in_err-loaded-clause-given g c =
    let fault : c.from_residual.result ≡ Err c.in_err-loaded.field-0.0 = grind arith in
    rw fault ((c.steps_chain.ensures _ _ (at_change _ _ _ _ _ _)).stopped c.in_err-loaded.field-0.0 c.in_err-loaded.ensures.given)

pub returns-in_err-loaded-clause-ends : goal.returns-in_err-loaded-clause-ends
returns-in_err-loaded-clause-ends g c =
    let fault : c.from_residual.result ≡ Err c.in_err-loaded.field-0.0 = grind arith in
    rw fault (record { ok_keeps_count = tt; ok_given = tt; halts = c.in_err-loaded.ensures.ends.halts })

pub report_on-requires-clause-checks : goal.report_on-requires-clause-checks
report_on-requires-clause-checks g c = record { listed = c.in_ok-loaded.ensures.listed; located = c.in_ok-loaded.ensures.located }

pub returns-clause-given : goal.returns-clause-given
unfolding ReportsBy
returns-clause-given g c =
    let change = loaded_by c.in_ok-loaded.loaded in
    let answer = answer_by c.in_ok-report_on.field-0 in
    (c.steps_chain.ensures _ _ (at_change _ _ _ _ _ _)).continued change (Ok answer) c.in_ok-loaded.ensures.given c.in_ok-report_on.ensures.reports
    (λ t other same x steps. c.same_changes_agree.ensures.reports (g.F.Files.steady c.args.files.now) c.args.states change other answer x same c.in_ok-report_on.ensures.reports steps)

pub returns-in_err-report_on-clause-given : goal.returns-in_err-report_on-clause-given
returns-in_err-report_on-clause-given g c =
    let fault : c.from_residual-in_err-report_on.result ≡ Err Memory = grind arith in
    rw fault (record { told_by = tt; alone = λ t x steps. tt })

pub returns-in_err-report_on-clause-ends : goal.returns-in_err-report_on-clause-ends
returns-in_err-report_on-clause-ends g c =
    let fault : c.from_residual-in_err-report_on.result ≡ Err Memory = grind arith in
    rw fault (record { ok_keeps_count = tt; ok_given = tt; halts = c.in_ok-loaded.ensures.ends.ok_keeps_count })
