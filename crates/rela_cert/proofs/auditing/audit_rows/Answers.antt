use Rattle.std.proofs.Common.{◌≡◌, ◌<◌, ◌≤◌, ℕ, Some, get_or, subst, sym, ⊎_elim, arith}
use Rattle.std.specs.List.{slice_get}
use Rattle.std.proofs.lemmas.Bool.{cases_lt}
use Rattle.std.proofs.lemmas.Option.{slice_get-get_or}
use Rattle.rela_cert.proofs.auditing.audit_rows.Goals as goal

pub loop-number-preserved : goal.loop-number-preserved
loop-number-preserved c = record {
  met = λ k row below at.
      let met = rw c.in_default.is at c.in_ok-answer.ensures.met in
      ⊎_elim
      (λ (before : k < c.loop-number.number). c.loop-number.invariant.met k row before at)
      (λ (last : c.loop-number.number ≤ k).
      let same : k ≡ c.loop-number.number = omega arith in
      met row (subst (λ (i : ℕ). slice_get c.args.certificate.now i ≡ Some row) same at))
      (cases_lt k c.loop-number.number);
  known = c.in_ok-answer.ensures.known;
  kept = c.in_ok-answer.ensures.kept;
}

pub returns : goal.returns
returns c = (sym c.len.ensures, λ k d below. c.loop-number.invariant.met k (get_or c.args.certificate.now k d) (omega arith) (slice_get-get_or c.args.certificate.now k d below))
