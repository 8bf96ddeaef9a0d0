use Rattle.std.proofs.Common.{arith}
use Rattle.rela_reduce.proofs.Rows.{joined_bit, joined_more, none_joined}
use Rattle.rela_reduce.proofs.bits.join.Goals as goal

pub loop-i-init : goal.loop-i-init
loop-i-init c = none_joined _ _

pub loop-i-preserved : goal.loop-i-preserved
loop-i-preserved c = joined_more _ _ _ _ (omega arith) c.loop-i.invariant

pub returns : goal.returns
returns c = joined_bit _ _ _ c.loop-i.i c.loop-i.invariant
