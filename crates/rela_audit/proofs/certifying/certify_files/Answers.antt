use Rattle.std.proofs.Common.{◌≡◌, Err, arith}
use Rattle.rela_inputs.specs.Answer.{answer_by}
use Rattle.rela_inputs.specs.Loaded.{loaded_by}
use Rattle.rela_inputs.specs.declared.reading.Halt.TheVariants.{Memory}
use Rattle.rela_audit.proofs.CertifyLaws.{certified, change_stopped}
use Rattle.rela_audit.proofs.certifying.certify_files.Goals as goal

pub returns-in_err-loaded-clause-given : goal.returns-in_err-loaded-clause-given
returns-in_err-loaded-clause-given g c =
    let fault : c.from_residual.result ≡ Err c.in_err-loaded.field-0.0 = grind arith in
    rw fault (change_stopped _ _ (c.steps_chain.ensures _ _) _ _ _ _ _ _ c.in_err-loaded.field-0.0 c.in_err-loaded.ensures.given)

pub returns-in_err-loaded-clause-ends : goal.returns-in_err-loaded-clause-ends
returns-in_err-loaded-clause-ends g c =
    let fault : c.from_residual.result ≡ Err c.in_err-loaded.field-0.0 = grind arith in
    rw fault (record { ok_keeps_count = tt; ok_given = tt; halts = c.in_err-loaded.ensures.ends.halts })

pub returns-clause-given : goal.returns-clause-given
returns-clause-given g c =
    certified _ _ (c.steps_chain.ensures _ _) _ _ _ _ _ _ c.same_checks_are_equal.ensures.specified (loaded_by c.in_ok-loaded.loaded) (answer_by c.in_ok-certify_loaded.field-0) c.in_ok-loaded.ensures.given
    c.in_ok-certify_loaded.ensures.certified

pub returns-clause-ends : goal.returns-clause-ends
returns-clause-ends g c = record {
  ok_keeps_count = c.in_ok-loaded.ensures.ends.ok_keeps_count;
  ok_given = c.in_ok-loaded.ensures.ends.ok_given;
  halts = tt;
}

pub returns-in_err-certify_loaded-clause-given : goal.returns-in_err-certify_loaded-clause-given
returns-in_err-certify_loaded-clause-given g c =
    let fault : c.from_residual-in_err-certify_loaded.result ≡ Err Memory = grind arith in
    rw fault (record { told_by = tt; alone = λ t x steps. tt })

pub returns-in_err-certify_loaded-clause-ends : goal.returns-in_err-certify_loaded-clause-ends
returns-in_err-certify_loaded-clause-ends g c =
    let fault : c.from_residual-in_err-certify_loaded.result ≡ Err Memory = grind arith in
    rw fault (record { ok_keeps_count = tt; ok_given = tt; halts = c.in_ok-loaded.ensures.ends.ok_keeps_count })
