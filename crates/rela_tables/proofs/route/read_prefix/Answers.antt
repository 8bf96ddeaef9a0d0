use Rattle.std.proofs.Common.{◌≡◌, Err, arith}
use Rattle.rela_tables.proofs.WalkLaws.{prefix_refused, prefix_read}
use Rattle.rela_tables.proofs.route.read_prefix.Goals as goal

pub returns-in_err-text : goal.returns-in_err-text
returns-in_err-text c =
    let is : c.from_residual.result ≡ Err c.in_err-text.field-0.0 = grind arith in
    rw is (prefix_refused _ _ _ c.in_err-text.ensures.fault)

pub returns : goal.returns
returns c = prefix_read _ _ _ _ c.in_ok-text.ensures.text c.ipv4_prefix.ensures
