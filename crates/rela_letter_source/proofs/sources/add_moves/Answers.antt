use Rattle.std.proofs.Common.{sym}
use Rattle.rela_letter_image.specs.LetterMoves.{alone_move}
use Rattle.rela_letter_source.specs.Steps.{alone_by}
use Rattle.rela_letter_source.proofs.GrownSteps.{grows_none, grows_more}
use Rattle.rela_letter_source.proofs.sources.add_moves.Goals as goal

pub loop-step-init : goal.loop-step-init
loop-step-init c = grows_none c.args.growing.now

pub loop-step-preserved : goal.loop-step-preserved
loop-step-preserved c =
    grows_more c.args.moves.now c.loop-step.step-index c.step-item.result c.loop-step-test.true (sym c.step-item.is) c.args.growing.now c.loop-step.growing c.add_alone.new.growing
    alone_move (λ m. alone_by c.args.next c.args.x m.kind m.to) c.loop-step.invariant c.in_ok-add_alone.ensures
