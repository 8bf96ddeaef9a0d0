use Rattle.rela_trans.proofs.Flagged.{flagged_more}
use Rattle.rela_trans.proofs.leading.insert.Goals as goal

pub returns-in_ok-push-clause-flagged : goal.returns-in_ok-push-clause-flagged
returns-in_ok-push-clause-flagged c =
    rw c.in_ok-push.ensures.items (flagged_more c.args.flags.now c.args.states.now.items c.args.q c.requires.state c.if-not-flags-q.true c.requires.flagged)
