use Rattle.std.proofs.Common.{◌+◌, List, ℕ, Option, arith, sym, ap, subst}
use Rattle.std.proofs.lemmas.Bool.{both_ways}
use Rattle.rela_witness.proofs.Searching.{Entering, entering_none, entering_more, entering_past, entered_all}
use Rattle.rela_witness.proofs.distances.enter_finals.Goals.{then-is_final+in_ok-enter, else-is_final}
use Rattle.rela_witness.proofs.distances.enter_finals.Goals as goal

pub loop-q-init : goal.loop-q-init
loop-q-init g c = entering_none c.args.a.now c.args.numbers.now.items c.args.layer.now.items

pub enter-requires : goal.enter-requires
enter-requires g c =
    omega (arith, c.loop-q-test.true, c.states-q-end.ensures.states, c.requires, c.args.numbers.now.ok.0, c.loop-q.numbers.ok.0, c.loop-q.invariant.grows.count)

pub loop-q-preserved : goal.loop-q-preserved
loop-q-preserved g c =
    let a = c.args.a.now in
    let old = c.args.numbers.now.items in
    let before = c.args.layer.now.items in
    let now = c.loop-q.numbers.items in
    let layer = c.loop-q.layer.items in
    let q = c.loop-q.q in
    elim c.if-is_final.branch [
      | then-is_final+in_ok-enter w ↦
          subst (λ (new : List (Option ℕ)). Entering a old new before c.if-is_final.layer.items (q + 1)) (sym (ap (λ v. v.items) w.numbers-is))
          (subst (λ (after : List ℕ). Entering a old w.enter.new.numbers.items before after (q + 1)) (sym (ap (λ v. v.items) w.layer-is))
          (entering_more a old before now w.enter.new.numbers.items layer w.enter.new.layer.items q c.loop-q.invariant (c.is_final.ensures.0 w.if-is_final.true)
          w.in_ok-enter.ensures.grows w.in_ok-enter.ensures.entered))
      | else-is_final w ↦
          subst (λ (new : List (Option ℕ)). Entering a old new before c.if-is_final.layer.items (q + 1)) (sym (ap (λ v. v.items) w.numbers-is))
          (subst (λ (after : List ℕ). Entering a old now before after (q + 1)) (sym (ap (λ v. v.items) w.layer-is))
          (entering_past a old before now layer q c.loop-q.invariant (λ final. both_ways c.is_final.result w.if-is_final.false (c.is_final.ensures.1 final))))
    ]

pub returns-clause-grows : goal.returns-clause-grows
returns-clause-grows g c = c.loop-q.invariant.grows

pub returns-clause-entered : goal.returns-clause-entered
returns-clause-entered g c =
    entered_all c.args.a.now c.args.numbers.now.items c.args.layer.now.items c.loop-q.numbers.items c.loop-q.layer.items c.loop-q.q
    (omega (arith, c.loop-q-test.false, c.states-q-end.ensures.states)) c.loop-q.invariant
