use Rattle.rela_trans.specs.Stored.{move_of}
use Rattle.rela_letter_image.specs.Branches.{led_to}
use Rattle.rela_letter_image.proofs.Laying.{gains_more}
use Rattle.rela_letter_image.proofs.laying_out.push_each.Goals as goal

pub loop-to-preserved : goal.loop-to-preserved
loop-to-preserved g c =
    gains_more (led_to (move_of g.M.LabelSet.letters c.args.step.now)) c.args.ends.now c.loop-to.to-index 0 c.loop-to-test.true c.args.letters c.args.lists.now c.loop-to.lists c.push_move.new.lists c.loop-to.invariant
    c.in_ok-push_move.ensures
