use Rattle.std.proofs.Common.{◌∙◌}
use Rattle.rela_letter_nfa.proofs.ChainEnds.{walking_more}
use Rattle.rela_letter_nfa.proofs.chains.walk.Goals as goal

pub loop-flags-preserved : goal.loop-flags-preserved
loop-flags-preserved c =
    rw c.in_ok-push.ensures.items
    (walking_more c.args.nfa.now c.args.q c.args.flags.now c.loop-flags.flags c.loop-flags.path.items c.loop-flags.end c.next-end.result (c.loop-flags.auto.flags ∙ c.requires.count)
    c.loop-flags.invariant c.loop-flags-test.true c.next-end.ensures.state c.next-end.ensures.next)
