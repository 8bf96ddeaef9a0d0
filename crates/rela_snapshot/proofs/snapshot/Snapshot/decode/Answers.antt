use Rattle.std.proofs.Common.{◌≡◌, Err, ap, arith}
use Rattle.std.proofs.lemmas.Result.{err_from_is_err_and}
use Rattle.rela_snapshot.proofs.FlowLaws.{json_fault, has_json}
use Rattle.rela_snapshot.proofs.Levels.{located_at}
use Rattle.rela_snapshot.proofs.snapshot.Snapshot.decode.Goals as goal

pub returns-in-Ok-clause-load : goal.returns-in-Ok-clause-load
returns-in-Ok-clause-load c = c.in-Ok.ensures.flows

pub returns-in-Ok-clause-located : goal.returns-in-Ok-clause-located
returns-in-Ok-clause-located c level = located_at c.args.locations.now c.in-Ok.flows.items level c.in-Ok.ensures.located

pub returns-in_err-root-clause-fault : goal.returns-in_err-root-clause-fault
returns-in_err-root-clause-fault c =
    let made = err_from_is_err_and c.from_residual.result c.from_residual.ensures.1 in
    let told = c.in_err-root.ensures.not_json in
    rw (made.1) (λ no. json_fault _ _ c.in_err-root.field-0.0 _ made.2 (λ same. told (ap (λ e. Err e) same)) no)

pub returns-in_err-flows-clause-fault : goal.returns-in_err-flows-clause-fault
returns-in_err-flows-clause-fault c =
    let is : c.from_residual-in_err-flows.result ≡ Err c.in_err-flows.field-0.0 = grind arith in
    rw is (λ no. has_json _ _ _ _ c.in_ok-root.ensures.value (c.in_err-flows.ensures.fault no))

pub returns-clause-load : goal.returns-clause-load
returns-clause-load c =
    let flows = c.in_ok-flows.ensures.flows in
    (flows.0, has_json _ _ _ _ c.in_ok-root.ensures.value flows.1, flows.2)

pub returns-clause-located : goal.returns-clause-located
returns-clause-located c level = located_at c.args.locations.now c.in_ok-flows.flows.items level c.in_ok-flows.ensures.located
