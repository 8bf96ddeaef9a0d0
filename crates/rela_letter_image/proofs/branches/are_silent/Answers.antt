use Rattle.std.proofs.Common.{ap, arith, map, refl, subst, sym, take, ◌∙◌}
use Rattle.std.specs.List.{All}
use Rattle.std.proofs.lemmas.Bool.{false≢true}
use Rattle.std.proofs.lemmas.List.{get_or-map, length-map, map_more, take_all}
use Rattle.std.proofs.lemmas.List.Elements.{All-push}
use Rattle.rela_trans.specs.Stored.{move_of}
use Rattle.rela_letter_image.specs.Branches.{IsSilent}
use Rattle.rela_letter_image.proofs.branches.are_silent.Goals as goal

pub returns-then-not-is_silent : goal.returns-then-not-is_silent
returns-then-not-is_silent g c =
    let f = move_of g.M.LabelSet.letters in
    let moves = c.args.moves.now in
    let i = c.loop-step.step-index in
    let x = c.step-item.result in
    let here = get_or-map f moves i x (f x) c.loop-step-test.true ∙ ap f (sym c.step-item.is) in
    (λ no. absurd (false≢true no), λ all. sym c.if-not-is_silent.true ∙ c.is_silent.ensures.1 (subst IsSilent here (all i (f x) (omega (arith, c.loop-step-test.true, length-map moves f)))))

pub loop-step-preserved : goal.loop-step-preserved
loop-step-preserved g c =
    let f = move_of g.M.LabelSet.letters in
    let moves = c.args.moves.now in
    let i = c.loop-step.step-index in
    let x = c.step-item.result in
    let silent = subst (λ m. IsSilent (f m)) c.step-item.is (c.is_silent.ensures.0 c.if-not-is_silent.false) in
    subst (All IsSilent) (sym (map_more f moves i x c.loop-step-test.true)) (All-push IsSilent (map f (take i moves)) (f _) c.loop-step.invariant silent)

pub returns : goal.returns
returns g c =
    let f = move_of g.M.LabelSet.letters in
    let all = take_all c.loop-step.step-index c.args.moves.now (omega (arith, c.loop-step-test.false)) in
    (λ yes. subst (λ l. All IsSilent (map f l)) all c.loop-step.invariant, λ silent. refl)
