use Rattle.std.proofs.Common.{◌≡◌, Err, arith}
use Rattle.rela_inputs.specs.Answer.{answer_by}
use Rattle.rela_assert.specs.Asserted.{asserted_by}
use Rattle.rela_assert.proofs.ClaimLaws.{claims_stopped, pairs_stopped, reported_or_memory}
use Rattle.rela_assert.proofs.ClaimReports.{SameGraphsAreAlike}
use Rattle.rela_assert.proofs.asserting.report_over.Goals as goal

pub returns-in_err-pairs-clause-given : goal.returns-in_err-pairs-clause-given
returns-in_err-pairs-clause-given g c =
    let fault : c.from_residual.result ≡ Err c.in_err-pairs.field-0.0 = grind arith in
    rw fault (pairs_stopped _ _ (c.steps_chain.ensures _ _) _ _ _ _ _ _ c.in_err-pairs.field-0.0 c.in_err-pairs.ensures.given)

pub returns-in_err-pairs-clause-ends : goal.returns-in_err-pairs-clause-ends
returns-in_err-pairs-clause-ends g c =
    let fault : c.from_residual.result ≡ Err c.in_err-pairs.field-0.0 = grind arith in
    rw fault (record { ok_keeps_count = tt; ok_given = tt; halts = c.in_err-pairs.ensures.ends.halts })

pub returns-in_err-pairs-2-clause-given : goal.returns-in_err-pairs-2-clause-given
returns-in_err-pairs-2-clause-given g c =
    let fault : c.from_residual-in_err-pairs-2.result ≡ Err c.in_err-pairs-2.field-0.0 = grind arith in
    let asserted = rw (c.in_ok-pairs.ensures.same_holds, c.in_ok-pairs.ensures.same_steady) at c.in_err-pairs-2.ensures.given in
    rw fault (claims_stopped _ _ (c.steps_chain.ensures _ _) _ _ _ _ _ _ c.in_ok-pairs.pairs.items c.in_err-pairs-2.field-0.0 c.in_ok-pairs.ensures.given asserted)

pub report_claims-requires-clause-located : goal.report_claims-requires-clause-located
report_claims-requires-clause-located g c =
    rw (c.deref.ensures.value, c.in_ok-pairs-2.ensures.same) (c.in_ok-pairs.ensures.located c.in_ok-pairs-2.asserted.level)

pub returns-clause-given : goal.returns-clause-given
returns-clause-given g c =
    let asserted = rw (c.in_ok-pairs.ensures.same_holds, c.in_ok-pairs.ensures.same_steady) at c.in_ok-pairs-2.ensures.given in
    let reports = rw (c.deref.ensures.value, c.in_ok-pairs-2.ensures.same) at c.report_claims.ensures.reports in
    let alike : SameGraphsAreAlike = record {
      paths = c.same_graphs_same_paths.ensures.paths;
      undelivered = c.same_graphs_same_paths.ensures.undelivered;
      arrivals = c.same_graphs_same_paths.ensures.arrivals;
    } in
    reported_or_memory _ _ (c.steps_chain.ensures _ _) _ _ _ _ _ alike c.same_checks_are_equal.ensures.sets c.right_rows_agree.ensures.agree c.args.locations.now c.in_ok-pairs.pairs.items (asserted_by c.in_ok-pairs-2.asserted)
    _ answer_by c.report_claims.result reports c.report_claims.ensures.memory c.in_ok-pairs.ensures.given asserted
