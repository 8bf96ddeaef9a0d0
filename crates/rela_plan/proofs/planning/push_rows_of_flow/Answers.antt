use Rattle.std.proofs.Common.{◌≡◌, ◌∙◌, ◌++◌, ◌∷◌, [], ℕ, List, ap, subst, length, arith}
use Rattle.std.specs.List.{HoldsAt}
use Rattle.rela_flows.specs.Plan.{ArePlaces}
use Rattle.rela_plan.specs.Selection.{HasFlow}
use Rattle.rela_plan.proofs.PlanSteps.{places_push, places_keep, rows_push, row_alone, has_at}
use Rattle.rela_plan.proofs.planning.push_rows_of_flow.Goals as goal
use Rattle.rela_plan.proofs.planning.push_rows_of_flow.Goals.{then-has_flow+in_ok-push, else-has_flow}

pub loop-check-preserved : goal.loop-check-preserved
loop-check-preserved c =
    let places : List ℕ = c.loop-check.invariant.0 in
    elim c.if-has_flow.branch [
      | then-has_flow+in_ok-push w ↦ (
        places ++ c.loop-check.check ∷ [],
        places_push _ _ _ c.loop-check.invariant.1 (has_at c.args.selections.now c.args.place c.loop-check.check c.loop-check-test.true (c.has_flow.ensures.0 w.if-has_flow.true)),
        ap (λ rows. rows.items) w.rows-is ∙ w.in_ok-push.ensures.items ∙ rows_push c.args.flow c.loop-check.check _ _ places c.loop-check.invariant.2,
      )
      | else-has_flow w ↦ (
        places,
        places_keep _ _ _ c.loop-check.invariant.1 (λ has. let yes = c.has_flow.ensures.1 (has 0) in cc),
        ap (λ rows. rows.items) w.rows-is ∙ c.loop-check.invariant.2,
      )
    ]

pub returns-in_ok-push-2 : goal.returns-in_ok-push-2
returns-in_ok-push-2 c =
    let places : List ℕ = c.loop-check.invariant.0 in
    let end : c.loop-check.check ≡ length c.args.selections.now = omega arith in
    let few : length c.loop-check.rows.items ≡ length c.args.rows.now.items = omega (arith, c.if-len-before.true, c.len.ensures, c.len-before.ensures) in (
      places,
      subst (λ (n : ℕ). ArePlaces (λ k. HoldsAt (λ flows. HasFlow flows c.args.place) c.args.selections.now k) n places) end c.loop-check.invariant.1,
      row_alone c.args.flow c.args.rows.now.items c.loop-check.rows.items c.push-then-len-before.new.self.items places c.loop-check.invariant.2 few
          c.in_ok-push-2.ensures.items,
    )
