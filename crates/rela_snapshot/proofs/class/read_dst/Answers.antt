use Rattle.std.proofs.Common.{◌≡◌, Err, arith}
use Rattle.rela_snapshot.proofs.FlowLaws.{dst_refused, dst_read}
use Rattle.rela_snapshot.proofs.class.read_dst.Goals as goal

pub returns-in_err-text : goal.returns-in_err-text
returns-in_err-text c =
    let is : c.from_residual.result ≡ Err c.in_err-text.field-0.0 = grind arith in
    rw is (dst_refused _ _ _ _ _ c.flow_rules.ensures c.in_err-text.ensures.fault)

pub returns : goal.returns
returns c = dst_read _ _ _ _ _ _ _ c.flow_rules.ensures c.family_in.ensures c.in_ok-text.ensures.text c.prefix_of.ensures
