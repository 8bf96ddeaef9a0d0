use Rattle.std.proofs.Common.{◌≡◌, ◌∙◌, ℕ, List, Err, subst, arith}
use Rattle.rela_inputs.specs.Answer.{answer_by}
use Rattle.rela_inputs.specs.Loaded.{loaded_by}
use Rattle.rela_inputs.specs.declared.reading.Halt.TheVariants.{Memory}
use Rattle.rela_audit.specs.Audits.{AnswersAudit}
use Rattle.rela_audit.proofs.AuditLaws.{audited, change_stopped, text_stopped}
use Rattle.rela_audit.proofs.auditing.audit_files.Goals as goal

pub returns-in_err-loaded-clause-given : goal.returns-in_err-loaded-clause-given
returns-in_err-loaded-clause-given g c =
    let fault : c.from_residual.result ≡ Err c.in_err-loaded.field-0.0 = grind arith in
    rw fault (change_stopped _ _ (c.steps_chain.ensures _ _) _ _ _ _ _ _ c.in_err-loaded.field-0.0 c.in_err-loaded.ensures.given)

pub returns-in_err-loaded-clause-ends : goal.returns-in_err-loaded-clause-ends
returns-in_err-loaded-clause-ends g c =
    let fault : c.from_residual.result ≡ Err c.in_err-loaded.field-0.0 = grind arith in
    rw fault (record { ok_keeps_count = tt; ok_given = tt; halts = c.in_err-loaded.ensures.ends.halts })

pub returns-in_err-text-clause-given : goal.returns-in_err-text-clause-given
returns-in_err-text-clause-given g c =
    let fault : c.from_residual-in_err-text.result ≡ Err c.in_err-text.field-0.0 = grind arith in
    let text = rw (c.in_ok-loaded.ensures.same_holds, c.in_ok-loaded.ensures.same_steady) at c.in_err-text.ensures.given in
    rw fault (text_stopped _ _ (c.steps_chain.ensures _ _) _ _ _ _ _ _ (loaded_by c.in_ok-loaded.loaded) c.in_err-text.field-0.0 c.in_ok-loaded.ensures.given text)

pub returns-in_err-text-clause-ends : goal.returns-in_err-text-clause-ends
returns-in_err-text-clause-ends g c =
    let fault : c.from_residual-in_err-text.result ≡ Err c.in_err-text.field-0.0 = grind arith in
    let halts = rw c.in_ok-loaded.ensures.ends.ok_keeps_count at c.in_err-text.ensures.ends.halts in
    rw fault (record { ok_keeps_count = tt; ok_given = tt; halts = halts })

pub returns-clause-given : goal.returns-clause-given
returns-clause-given g c =
    let text = rw (c.in_ok-loaded.ensures.same_holds, c.in_ok-loaded.ensures.same_steady) at c.in_ok-text.ensures.given in
    let change = loaded_by c.in_ok-loaded.loaded in
    let answer = answer_by c.in_ok-audit_loaded.field-0 in
    audited _ _ (c.steps_chain.ensures _ _) _ _ _ _ _ _ c.same_checks_are_equal.ensures.specified c.plans_are_equal.ensures change c.in_ok-text.text.items answer c.in_ok-loaded.ensures.given text
    (subst (λ (bytes : List ℕ). AnswersAudit change bytes answer) c.as_slice.ensures.value c.in_ok-audit_loaded.ensures.audited)

pub returns-clause-ends : goal.returns-clause-ends
returns-clause-ends g c = record {
  ok_keeps_count = c.in_ok-text.ensures.ends.ok_keeps_count ∙ c.in_ok-loaded.ensures.ends.ok_keeps_count;
  ok_given = c.in_ok-text.ensures.ends.ok_given;
  halts = tt;
}

pub returns-in_err-audit_loaded-clause-given : goal.returns-in_err-audit_loaded-clause-given
returns-in_err-audit_loaded-clause-given g c =
    let fault : c.from_residual-in_err-audit_loaded.result ≡ Err Memory = grind arith in
    rw fault (record { told_by = tt; alone = λ t x steps. tt })

pub returns-in_err-audit_loaded-clause-ends : goal.returns-in_err-audit_loaded-clause-ends
returns-in_err-audit_loaded-clause-ends g c =
    let fault : c.from_residual-in_err-audit_loaded.result ≡ Err Memory = grind arith in
    rw fault (record { ok_keeps_count = tt; ok_given = tt; halts = c.in_ok-text.ensures.ends.ok_keeps_count ∙ c.in_ok-loaded.ensures.ends.ok_keeps_count })
