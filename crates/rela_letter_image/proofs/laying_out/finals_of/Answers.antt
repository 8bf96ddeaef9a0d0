use Rattle.std.proofs.Common.{arith, ◌∙◌}
use Rattle.std.proofs.lemmas.List.{take_all}
use Rattle.rela_letter_image.proofs.Laying.{finals_more}
use Rattle.rela_letter_image.proofs.laying_out.finals_of.Goals as goal

pub loop-q-preserved : goal.loop-q-preserved
loop-q-preserved g c =
    finals_more c.args.relation.now.finals c.push.new.self.items c.loop-q.finals.items c.loop-q.q c.is_final.result (omega (arith, c.loop-q-test.true, c.states-q-end.ensures.states, c.loop-q.auto.q-end)) c.in_ok-push.ensures.items
    c.loop-q.invariant c.is_final.ensures

pub returns : goal.returns
returns g c = c.loop-q.invariant ∙ take_all c.loop-q.q c.args.relation.now.finals (omega (arith, c.loop-q-test.false, c.states-q-end.ensures.states, c.loop-q.auto.q-end))
