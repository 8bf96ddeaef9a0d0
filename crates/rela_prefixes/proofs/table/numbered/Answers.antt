use Rattle.std.proofs.Common.{arith}
use Rattle.rela_prefixes.proofs.Splitting.{one_more_numbered}
use Rattle.rela_prefixes.proofs.table.numbered.Goals as goal

pub loop-number-preserved : goal.loop-number-preserved
loop-number-preserved c = record {
  as_many = omega (arith, c.in_ok-push.ensures.len, c.loop-number.invariant.as_many);
  each = λ k q lt at. rw (c.in_ok-push.ensures.items) (one_more_numbered c.args.prefixes.now c.loop-number.ns.items c.loop-number.number c.index-prefixes-number.result (omega (arith, c.loop-number.ns.ok, c.loop-number.invariant.as_many)) c.index-prefixes-number.is c.loop-number.invariant.each k q lt at);
}
