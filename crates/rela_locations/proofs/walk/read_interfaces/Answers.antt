use Rattle.std.proofs.Common.{◌≡◌, Err, arith}
use Rattle.std.proofs.lemmas.Result.{err_from_is_err_and}
use Rattle.serde_json.specs.View.{view}
use Rattle.rela_locations.proofs.Loops.{left_next, left_none}
use Rattle.rela_locations.proofs.WalkLaws.{interfaces_all, interfaces_more, interfaces_refused, seen_one_more}
use Rattle.rela_locations.proofs.walk.read_interfaces.Goals as goal

pub returns-in_err-name-clause-fault : goal.returns-in_err-name-clause-fault
returns-in_err-name-clause-fault c =
    let is : c.from_residual.result ≡ Err c.in_err-name.field-0.0 = grind arith in
    let next = left_next view c.args.values.now c.loop-value.value-index c.value-item.result c.loop-value-test.true c.value-item.is in
    rw is (λ no. interfaces_refused _ _ _ _ _ _ _ next (c.in_err-name.ensures.fault no) c.loop-value.invariant.left)

pub returns-in_err-push-clause-fault : goal.returns-in_err-push-clause-fault
returns-in_err-push-clause-fault c =
    let made = err_from_is_err_and c.from_residual-in_err-push.result c.from_residual-in_err-push.ensures.1 in
    rw (made.1) (λ real. absurd (real made.2))

pub loop-value-preserved : goal.loop-value-preserved
loop-value-preserved c =
    let next = left_next view c.args.values.now c.loop-value.value-index c.value-item.result c.loop-value-test.true c.value-item.is in
    record {
      left = interfaces_more _ _ _ _ _ _ _ _ _ next c.in_ok-name.ensures.name c.in_ok-name.ensures.seen c.in_ok-push.ensures.items c.loop-value.invariant.left;
      seen = seen_one_more _ _ _ _ _ _ c.in_ok-push.ensures.items c.loop-value.invariant.seen c.in_ok-name.ensures.seen;
    }

pub returns-clause-names : goal.returns-clause-names
returns-clause-names c = interfaces_all _ _ _ _ (left_none view c.args.values.now c.loop-value.value-index c.loop-value-test.false) c.loop-value.invariant.left
