use Rattle.std.proofs.Common.{◌≡◌, true, Ok, Err, arith}
use Rattle.rela_words.specs.Words.{default_states}
use Rattle.rela_inputs.specs.Answer.{answer_by}
use Rattle.rela_inputs.specs.Loaded.{loaded_by}
use Rattle.rela_inputs.specs.declared.reading.Halt.TheVariants.{Memory}
use Rattle.rela_demonstrate.specs.Demos.{Demos}
use Rattle.rela_demonstrate.proofs.Points.{at_report}
use Rattle.rela_demonstrate.proofs.demonstrating.demonstrate.Goals as goal

pub returns-in_err-loaded-clause-report : goal.returns-in_err-loaded-clause-report
unfolding Demos
returns-in_err-loaded-clause-report c =
    let fault : c.from_residual.result ≡ Err c.in_err-loaded.field-0.0 = grind arith in
    let layered = c.in_err-loaded.ensures.layered in
    rw fault (record {
      given = (c.steps_chain.ensures true true (at_report c.args.layers)).stopped c.in_err-loaded.field-0.0 layered.given;
      halts = layered.halts;
    })

pub returns-in_err-report_on-clause-report : goal.returns-in_err-report_on-clause-report
returns-in_err-report_on-clause-report c =
    let fault : c.from_residual-in_err-report_on.result ≡ Err Memory = grind arith in
    rw fault (record { given = record { told_by = tt; alone = λ t x steps. tt }; halts = tt })

-- the report on what was loaded is that on all that is the same
pub returns-clause-report : goal.returns-clause-report
unfolding Demos
returns-clause-report c =
    let loaded = loaded_by c.in_ok-loaded.loaded in
    let answer = answer_by c.in_ok-report_on.field-0 in
    record {
      given = (c.steps_chain.ensures true true (at_report c.args.layers)).continued loaded (Ok answer) c.in_ok-loaded.ensures.layered.given
          c.in_ok-report_on.ensures.reports
          (λ t other same x steps. c.same_changes_agree.ensures.reports true default_states loaded other answer x same c.in_ok-report_on.ensures.reports steps);
      halts = tt;
    }
