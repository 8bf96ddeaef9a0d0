use Rattle.std.proofs.Common.{ℕ, arith, get_or, subst, sym, take}
use Rattle.std.specs.List.{All, slice_index}
use Rattle.std.proofs.lemmas.Bool.{false≢true}
use Rattle.std.proofs.lemmas.List.{take_all, take_more}
use Rattle.std.proofs.lemmas.List.Elements.{All-push}
use Rattle.rela_letter_image.specs.Needs.{IsWithin}
use Rattle.rela_letter_image.proofs.ahead.are_silents_ahead.Goals as goal

pub returns-then-not-is_within : goal.returns-then-not-is_within
returns-then-not-is_within c = λ no. absurd (false≢true no)

pub loop-end-preserved : goal.loop-end-preserved
loop-end-preserved c =
    let P : ℕ → Type 0 = λ q. IsWithin (slice_index c.args.ahead.now q) c.args.here in
    let ends = c.args.ends.now in
    let i = c.loop-end.end-index in
    subst (All P) (sym (take_more ends i 0 c.loop-end-test.true))
    (All-push P (take i ends) (get_or ends i 0) c.loop-end.invariant (subst (λ w. IsWithin w c.args.here) c.word_at.ensures (c.is_within.ensures.0 c.if-not-is_within.false)))

pub returns : goal.returns
returns c = λ yes. subst (All (λ q. IsWithin (slice_index c.args.ahead.now q) c.args.here)) (take_all c.loop-end.end-index c.args.ends.now (omega (arith, c.loop-end-test.false))) c.loop-end.invariant
