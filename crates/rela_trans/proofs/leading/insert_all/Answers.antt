use Rattle.rela_trans.proofs.Coaccessible.{adds_listed}
use Rattle.rela_trans.proofs.leading.insert_all.Goals as goal

pub loop-q-preserved : goal.loop-q-preserved
loop-q-preserved c = record {
  flagged = c.in_ok-insert.ensures.flagged;
  added =
      adds_listed c.args.more.now c.loop-q.q-index c.args.states.now.items c.loop-q.states.items c.insert.new.states.items c.loop-q-test.true c.loop-q.invariant.added
      c.in_ok-insert.ensures.inserted;
}
