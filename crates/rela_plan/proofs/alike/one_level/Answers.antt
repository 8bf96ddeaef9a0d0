use Rattle.std.proofs.Common.{◌≡◌, ◌+◌, ◌∷◌, ◌++◌, List, [], All, take, sym, ap, subst, ◌∙◌, rules}
use Rattle.std.proofs.lemmas.List.{take_more, take_all}
use Rattle.rela_translate.specs.Checked.{Checked}
use Rattle.rela_plan.proofs.PlanLaws.{All-more}
use Rattle.rela_plan.proofs.alike.one_level.Goals as goal

pub loop-check-preserved : goal.loop-check-preserved
loop-check-preserved c =
    let same : c.level.result ≡ c.level-level.result = search rules in
    All-more (λ (one : Checked). one.level ≡ c.level-level.result) (take c.loop-check.check-index c.args.checks.now)
    (take (c.loop-check.check-index + 1) c.args.checks.now) c.check-item.result
    (take_more c.args.checks.now c.loop-check.check-index c.check-item.result c.loop-check-test.true
    ∙ ap (λ (one : Checked). take c.loop-check.check-index c.args.checks.now ++ one ∷ []) (sym c.check-item.is))
    c.loop-check.invariant (sym c.level.ensures ∙ same)

pub returns : goal.returns
returns c =
    subst (λ (all : List Checked). All (λ (one : Checked). one.level ≡ c.level-level.result) all)
    (take_all c.loop-check.check-index c.args.checks.now c.loop-check-test.false) c.loop-check.invariant
