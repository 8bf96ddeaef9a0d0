use Rattle.std.proofs.Common.{◌≡◌, Err, arith}
use Rattle.std.proofs.lemmas.Result.{err_from_is_err_and}
use Rattle.serde_json.specs.View.{view}
use Rattle.rela_snapshot.specs.Located.{IsLocatedIn}
use Rattle.rela_snapshot.proofs.FlowLaws.{read_more, read_refused, read_all, left_next, left_none, names_more, few_more}
use Rattle.rela_snapshot.proofs.Kept.{All-push}
use Rattle.rela_snapshot.proofs.walk.read_flows.Goals as goal

pub returns-in_err-flow-clause-fault : goal.returns-in_err-flow-clause-fault
returns-in_err-flow-clause-fault c =
    let is : c.from_residual.result ≡ Err c.in_err-flow.field-0.0 = grind arith in
    let next = left_next view c.args.values.now c.loop-value.value-index c.value-item.result c.loop-value-test.true c.value-item.is in
    rw is (λ no. read_refused _ _ _ _ _ _ _ _ _ next c.loop-value.invariant.names (c.in_err-flow.ensures.fault no) c.loop-value.invariant.read)

pub returns-in_err-push-clause-fault : goal.returns-in_err-push-clause-fault
returns-in_err-push-clause-fault c =
    let made = err_from_is_err_and c.from_residual-in_err-push.result c.from_residual-in_err-push.ensures.1 in
    rw (made.1) (λ real. absurd (real made.2))

pub loop-value-preserved : goal.loop-value-preserved
loop-value-preserved c =
    let next = left_next view c.args.values.now c.loop-value.value-index c.value-item.result c.loop-value-test.true c.value-item.is in
    record {
      read = read_more _ _ _ _ _ _ _ _ _ _ next c.loop-value.invariant.names c.in_ok-push.ensures.items c.in_ok-flow.ensures.flow c.loop-value.invariant.read;
      names = names_more _ _ _ _ _ c.loop-value.invariant.names c.in_ok-flow.ensures.names c.in_ok-push.ensures.items;
      few = few_more _ _ _ c.in_ok-flow.ensures.few c.in_ok-flow.ensures.names;
      distinct = c.in_ok-flow.ensures.distinct;
      located = All-push (λ flow. IsLocatedIn c.args.locations.now flow.graph) _ _ _ c.in_ok-push.ensures.items c.loop-value.invariant.located c.in_ok-flow.ensures.located;
    }

pub returns-clause-flows : goal.returns-clause-flows
returns-clause-flows c = read_all _ _ _ _ _ (left_none view c.args.values.now c.loop-value.value-index c.loop-value-test.false) c.loop-value.invariant.read
