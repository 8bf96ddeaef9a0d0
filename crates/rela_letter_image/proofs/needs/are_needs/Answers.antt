use Rattle.std.proofs.Common.{◌≡◌, IsTrue, arith, false, get_or, inl, inr, length, subst, sym, ◌∙◌}
use Rattle.std.specs.List.{slice_index}
use Rattle.std.proofs.lemmas.Bool.{cases_lt, false≢true}
use Rattle.std.proofs.lemmas.List.{get_or_default, get_or_past}
use Rattle.rela_letter_image.specs.LetterMoves.{none_laid}
use Rattle.rela_letter_image.specs.Needs.{AreKept}
use Rattle.rela_letter_image.proofs.Needing.{are_needs}
use Rattle.rela_letter_image.proofs.needs.are_needs.Goals as goal

pub returns-then-not-keeps : goal.returns-then-not-keeps
returns-then-not-keeps c = λ no. absurd (false≢true no)

pub loop-q-preserved : goal.loop-q-preserved
loop-q-preserved c =
    let needs = c.args.needs.now in
    let states = c.args.states.now.0 in
    let q = c.loop-q.q in
    record {
      final = λ p below ends. elim (cases_lt p q) [
        | inl less ↦ c.loop-q.invariant.final p less ends
        | inr past ↦
            let here : p ≡ q = omega (arith, past, below) in
            subst (λ n. slice_index needs n ≡ 0) (sym here) (c.keeps.ensures.none c.if-not-keeps.false (subst (λ n. IsTrue (get_or c.args.finals.now n false)) here ends))
      ];
      kept = λ p d below. elim (cases_lt p q) [
        | inl less ↦ c.loop-q.invariant.kept p d less
        | inr past ↦
            let here : p ≡ q = omega (arith, past, below) in
            subst (λ n. AreKept needs (slice_index needs n) (get_or states n d)) (sym here)
            (subst (AreKept needs (slice_index needs q)) (c.get.ensures ∙ get_or_default states q none_laid d (omega (arith, c.loop-q-test.true, c.requires.each))) (c.keeps.ensures.kept c.if-not-keeps.false))
      ];
    }

pub returns : goal.returns
returns c = λ yes letters start.
    let finals = c.args.finals.now in
    are_needs letters start finals c.args.states.now.0 c.args.needs.now
    (λ q ends. elim (cases_lt q (length finals)) [
      | inl below ↦ c.loop-q.invariant.final q (omega (arith, below, c.requires.each, c.loop-q-test.false, c.loop-q.auto.q-end)) ends
      | inr past ↦ absurd (false≢true (sym (get_or_past finals q false past) ∙ ends))
    ])
    (λ q d below. c.loop-q.invariant.kept q d (omega (arith, below, c.loop-q-test.false, c.loop-q.auto.q-end)))
