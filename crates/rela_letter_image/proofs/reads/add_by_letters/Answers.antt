use Rattle.std.proofs.Common.{get_or, false}
use Rattle.std.specs.Prelude.{nat_eq}
use Rattle.std.proofs.lemmas.List.{get_or_default}
use Rattle.rela_nfa.specs.Meeting.{pair_of}
use Rattle.rela_letter_image.specs.Steps.{step_if, step_to, written_by}
use Rattle.rela_letter_image.specs.declared.letter_moves.LetterMove.{LetterMove}
use Rattle.rela_letter_image.proofs.GrownSteps.{grows_none, grows_flat_more}
use Rattle.rela_letter_image.proofs.reads.add_by_letters.Goals as goal

pub loop-step-init : goal.loop-step-init
loop-step-init c = grows_none c.args.growing.now

pub loop-step-preserved : goal.loop-step-preserved
loop-step-preserved c =
    let moves = c.args.moves.now in
    let i = c.loop-step.step-index in
    let none : LetterMove = record { to = 0; letter = 0; writes = false } in
    let step : LetterMove = get_or moves i none in
    let edge = c.args.edge in
    grows_flat_more moves i step c.loop-step-test.true (get_or_default moves i step none c.loop-step-test.true) c.args.growing.now c.loop-step.growing c.add_by_letter.new.growing
    (λ m. step_if (nat_eq m.letter c.args.coarse) (step_to (written_by edge.letter m.writes) (pair_of edge.to m.to))) c.loop-step.invariant c.in_ok-add_by_letter.ensures
