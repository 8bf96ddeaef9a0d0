use Rattle.std.proofs.Common.{arith, false, get_or, subst, sym, take, ◌≡◌, ℕ, ◌<◌, ◌⊎◌}
use Rattle.std.specs.List.{All, slice_index}
use Rattle.std.proofs.lemmas.Bool.{false≢true}
use Rattle.std.proofs.lemmas.List.{take_all, take_more}
use Rattle.std.proofs.lemmas.List.Elements.{All-push}
use Rattle.rela_letter_image.specs.Needs.{Has}
use Rattle.rela_letter_image.specs.declared.letter_moves.LetterMove.{LetterMove}
use Rattle.rela_letter_image.proofs.needs.letters_keep.Goals as goal

pub returns-then-not-letter_keeps : goal.returns-then-not-letter_keeps
returns-then-not-letter_keeps c = λ no. absurd (false≢true no)

pub loop-step-preserved : goal.loop-step-preserved
loop-step-preserved c =
    let P : LetterMove → Type 0 = λ step. (k : ℕ) → k < 64 → Has c.args.need k → Has (slice_index c.args.needs.now step.to) k ⊎ (k ≡ step.letter) in
    let moves = c.args.moves.now in
    let i = c.loop-step.step-index in
    let d : LetterMove = record { to = 0; letter = 0; writes = false } in
    subst (All P) (sym (take_more moves i d c.loop-step-test.true))
    (All-push P (take i moves) (get_or moves i d) c.loop-step.invariant (c.letter_keeps.ensures c.if-not-letter_keeps.false))

pub returns : goal.returns
returns c = λ yes. subst (All (λ (step : LetterMove). (k : ℕ) → k < 64 → Has c.args.need k → Has (slice_index c.args.needs.now step.to) k ⊎ (k ≡ step.letter))) (take_all c.loop-step.step-index c.args.moves.now (omega (arith, c.loop-step-test.false))) c.loop-step.invariant
