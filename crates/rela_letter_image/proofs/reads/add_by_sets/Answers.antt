use Rattle.std.proofs.Common.{sym}
use Rattle.rela_nfa.specs.Meeting.{pair_of}
use Rattle.rela_letter_image.specs.LetterMoves.{set_move}
use Rattle.rela_letter_image.specs.Steps.{read_by}
use Rattle.rela_letter_image.proofs.GrownSteps.{grows_none, grows_more}
use Rattle.rela_letter_image.proofs.reads.add_by_sets.Goals as goal

pub loop-step-init : goal.loop-step-init
loop-step-init c = grows_none c.args.growing.now

pub loop-step-preserved : goal.loop-step-preserved
loop-step-preserved c =
    grows_more c.args.moves.now c.loop-step.step-index c.step-item.result c.loop-step-test.true (sym c.step-item.is) c.args.growing.now c.loop-step.growing c.add_by_set.new.growing
    set_move (λ m. read_by c.args.coarse c.args.edge.letter m.kind (pair_of c.args.edge.to m.to)) c.loop-step.invariant c.in_ok-add_by_set.ensures
