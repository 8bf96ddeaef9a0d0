use Rattle.std.proofs.Common.{◌≤◌, subst}
use Rattle.std.proofs.lemmas.Bool.{both_ways}
use Rattle.rela_trans.proofs.Coaccessible.{finals_all, finals_more, finals_same}
use Rattle.rela_trans.proofs.leading.insert_finals.Goals.{then-is_final+in_ok-insert, else-is_final}
use Rattle.rela_trans.proofs.leading.insert_finals.Goals as goal

pub loop-q-preserved : goal.loop-q-preserved
loop-q-preserved g c =
    elim c.if-is_final.branch [
      | then-is_final+in_ok-insert w ↦ rw (w.flags-is, w.states-is) (record {
        flagged = w.in_ok-insert.ensures.flagged;
        added =
            finals_more c.args.transducer.now c.loop-q.q c.args.states.now.items c.loop-q.states.items w.insert.new.states.items c.loop-q.invariant.added
            (c.is_final.ensures.0 w.if-is_final.true) w.in_ok-insert.ensures.inserted;
      })
      | else-is_final w ↦ rw (w.flags-is, w.states-is) (record {
        flagged = c.loop-q.invariant.flagged;
        added =
            finals_same c.args.transducer.now c.loop-q.q c.args.states.now.items c.loop-q.states.items c.loop-q.invariant.added
            (λ final. both_ways c.is_final.result w.if-is_final.false (c.is_final.ensures.1 final));
      })
    ]

pub returns-clause-added : goal.returns-clause-added
returns-clause-added g c =
    finals_all c.args.transducer.now c.loop-q.q c.args.states.now.items c.loop-q.states.items
    (subst (λ n. n ≤ c.loop-q.q) c.states-q-end.ensures.states c.loop-q-test.false) c.loop-q.invariant.added
