use Rattle.std.proofs.Common.{◌≡◌, ◌<◌, ℕ, ◌⊎◌, List, Some, length, get_or, subst, arith}
use Rattle.std.specs.List.{Contains}
use Rattle.std.proofs.lemmas.List.{length-map}
use Rattle.std.proofs.lemmas.List.Elements.{Contains-get_or}
use Rattle.rela_reduce.specs.Simulation.{arrows_of}
use Rattle.rela_reduce.specs.Stored.{lists_of}
use Rattle.rela_reduce.specs.declared.arrow.Arrow.{Arrow}
use Rattle.rela_reduce.proofs.Stepping.{row_read, steps_more}
use Rattle.rela_reduce.proofs.closed.steps_of.Goals as goal

pub loop-q-preserved : goal.loop-q-preserved
loop-q-preserved c =
    let whole = c.args.whole.now in
    let q : ℕ = get_or c.args.states.now c.loop-q.q-index 0 in
    let q_in : q < length whole.finals.items = c.requires.states c.loop-q.q-index 0 c.loop-q-test.true in
    let q_row : q < length whole.arrows.items = omega (arith, c.requires.plain.each, length-map whole.arrows.items (λ v. v.items)) in
    let row : c.deref.result.now ≡ arrows_of (lists_of whole.arrows.items) q =
    row_read whole.arrows.items q c.index.result.now c.deref.result.now q_row c.index.ensures c.deref.ensures.value in
    steps_more (lists_of whole.arrows.items) c.args.states.now q c.loop-q.steps.items c.add_steps.new.steps.items c.loop-q.invariant (Contains-get_or c.args.states.now c.loop-q.q-index 0 c.loop-q-test.true)
    (λ step listed. subst (λ (l : List Arrow). Contains c.loop-q.steps.items step ⊎ Contains l (record { label = Some step.label; to = step.to })) row (c.in_ok-add_steps.ensures step listed))
