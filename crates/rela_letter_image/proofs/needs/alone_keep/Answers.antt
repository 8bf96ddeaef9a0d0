use Rattle.std.proofs.Common.{arith, get_or, subst, sym, take}
use Rattle.std.specs.List.{All, slice_index}
use Rattle.std.proofs.lemmas.Bool.{false≢true}
use Rattle.std.proofs.lemmas.List.{take_all, take_more}
use Rattle.std.proofs.lemmas.List.Elements.{All-push}
use Rattle.rela_letter_image.specs.Needs.{IsWithin}
use Rattle.rela_letter_image.specs.declared.letter_moves.AloneMove.{AloneMove}
use Rattle.rela_letter_image.proofs.needs.alone_keep.Goals as goal

pub returns-then-not-is_within : goal.returns-then-not-is_within
returns-then-not-is_within c = λ no. absurd (false≢true no)

pub loop-step-preserved : goal.loop-step-preserved
loop-step-preserved c =
    let P : AloneMove → Type 0 = λ step. IsWithin c.args.need (slice_index c.args.needs.now step.to) in
    let moves = c.args.moves.now in
    let i = c.loop-step.step-index in
    let x = c.step-item.result in
    subst (All P) (sym (take_more moves i x c.loop-step-test.true))
    (All-push P (take i moves) (get_or moves i x) c.loop-step.invariant
    (subst P c.step-item.is (subst (IsWithin c.args.need) c.word_at.ensures (c.is_within.ensures.0 c.if-not-is_within.false))))

pub returns : goal.returns
returns c = λ yes. subst (All (λ (step : AloneMove). IsWithin c.args.need (slice_index c.args.needs.now step.to))) (take_all c.loop-step.step-index c.args.moves.now (omega (arith, c.loop-step-test.false))) c.loop-step.invariant
