use Rattle.std.proofs.Common.{arith}
use Rattle.rela_letter_nfa.proofs.ChainEnds.{settled_more}
use Rattle.rela_letter_nfa.proofs.chains.settle.Goals as goal

pub loop-p-preserved : goal.loop-p-preserved
loop-p-preserved c =
    let within = c.requires c.loop-p.p-index 0 c.loop-p-test.true in
    settled_more c.args.ends.now c.loop-p.ends c.args.path.now c.loop-p.p-index c.args.end c.loop-p-test.true (omega (arith, within, c.loop-p.auto.ends)) c.loop-p.invariant
