use Rattle.std.proofs.Common.{◌≡◌, Err, arith}
use Rattle.rela_snapshot.proofs.FlowLaws.{flow_unnamed, flow_kept, flow_fault_kept}
use Rattle.rela_snapshot.proofs.walk.read_flow.Goals as goal

pub returns-in_err-name-clause-fault : goal.returns-in_err-name-clause-fault
returns-in_err-name-clause-fault c =
    let is : c.from_residual.result ≡ Err c.in_err-name.field-0.0 = grind arith in
    rw is (λ no. flow_unnamed _ _ _ _ _ (c.in_err-name.ensures.fault no))

pub returns-clause-flow : goal.returns-clause-flow
returns-clause-flow c = flow_kept _ _ _ _ _ _ _ c.in_ok-name.ensures.name c.len-row.ensures.len c.read_flow_named.ensures.flow

pub returns-clause-fault : goal.returns-clause-fault
returns-clause-fault c = flow_fault_kept _ _ _ _ _ _ _ c.in_ok-name.ensures.name c.len-row.ensures.len c.read_flow_named.ensures.fault
