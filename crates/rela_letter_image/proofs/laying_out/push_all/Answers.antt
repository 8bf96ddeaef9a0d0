use Rattle.std.proofs.Common.{sym}
use Rattle.rela_trans.specs.Stored.{move_of}
use Rattle.rela_letter_image.specs.Branches.{ends_of, passed_on}
use Rattle.rela_letter_image.proofs.Laying.{gains_flat_more, gains_none}
use Rattle.rela_letter_image.proofs.laying_out.push_all.Goals as goal

pub loop-step-init : goal.loop-step-init
loop-step-init g c = gains_none c.args.letters c.args.lists.now

pub loop-step-preserved : goal.loop-step-preserved
loop-step-preserved g c =
    gains_flat_more (passed_on (ends_of c.args.kept.now)) (move_of g.M.LabelSet.letters) c.args.moves.now c.loop-step.step-index c.step-item.result c.loop-step-test.true (sym c.step-item.is) c.args.letters
    c.args.lists.now c.loop-step.lists c.push_passed.new.lists c.loop-step.invariant c.in_ok-push_passed.ensures
