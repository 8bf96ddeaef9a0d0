use Rattle.std.proofs.Common.{◌≡◌, Err, arith}
use Rattle.rela_snapshot.proofs.FlowLaws.{src_refused, src_read}
use Rattle.rela_snapshot.proofs.class.read_src.Goals as goal

pub returns-in_err-text : goal.returns-in_err-text
returns-in_err-text c =
    let is : c.from_residual.result ≡ Err c.in_err-text.field-0.0 = grind arith in
    rw is (src_refused _ _ _ _ _ _ _ c.flow_rules.ensures c.family_of-family.ensures c.in_err-text.ensures.fault)

pub returns : goal.returns
returns c = src_read _ _ _ _ _ _ _ _ c.flow_rules.ensures c.family_of-family.ensures c.in_ok-text.ensures.text c.prefix_of.ensures
