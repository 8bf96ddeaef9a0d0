use Rattle.std.proofs.Common.{◌≡◌, Err, arith}
use Rattle.rela_snapshot.proofs.FlowLaws.{no_contents, flows_kept, flows_fault_kept}
use Rattle.rela_snapshot.proofs.walk.read_snapshot.Goals as goal

pub returns-in_err-version-clause-fault : goal.returns-in_err-version-clause-fault
returns-in_err-version-clause-fault c =
    let is : c.from_residual.result ≡ Err c.in_err-version.field-0.0 = grind arith in
    rw is (λ no. no_contents _ _ _ c.in_err-version.ensures.fault)

pub returns-clause-flows : goal.returns-clause-flows
returns-clause-flows c = flows_kept _ _ _ _ (λ flows. flows.items) _ c.in_ok-version.ensures.contents c.read_flows.ensures.flows

pub returns-clause-fault : goal.returns-clause-fault
returns-clause-fault c = flows_fault_kept _ _ _ _ _ c.in_ok-version.ensures.contents c.read_flows.ensures.fault
