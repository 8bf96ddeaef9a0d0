use Rattle.std.proofs.Common.{◌≡◌, ◌∙◌, ℕ, ◌<◌, cond, List, [], ◌∷◌, length, get_or, replicate, drop, ap, sym, subst}
use Rattle.std.specs.List.{All}
use Rattle.std.proofs.lemmas.List.{take_at}
use Rattle.rela_subset.specs.Deterministic.{takes}
use Rattle.rela_engine.proofs.EdgesInTurn.{AreLed, IsSized, all_led, all_sized, as_move, front_of, last_of, none_led, none_left, one_led}
use Rattle.rela_engine.proofs.letter_targets.letter_targets.Goals as goal

pub loop-last-init : goal.loop-last-init
loop-last-init c =
    let d = c.args.dfa.now in
    let edges = c.edges-edges.result.now in
    let none = c.in_ok-targets.ensures.items_if_clones_equal (λ y e. e) ∙ ap (λ (n : ℕ). replicate n 0) c.letters.ensures.letters in record {
      led = subst (AreLed d c.args.q edges) (sym none) (none_led d c.args.q edges c.edges-edges.ensures);
      sized = all_sized d c.states.ensures.deterministic c.args.q edges c.edges-edges.ensures;
    }

pub loop-last-preserved : goal.loop-last-preserved
loop-last-preserved c =
    let d = c.args.dfa.now in
    let new = c.lead_along.new.targets in
    let long = c.in_ok-lead_along.ensures.each ∙ ap length c.deref_mut.ensures.value in
    let same = take_at new (drop (length new) c.loop-last.targets.items) c.loop-last.targets.len (long ∙ sym c.loop-last.targets.ok.0) in record {
      led = subst (AreLed d c.args.q c.in-Some.earlier.now) (sym same)
          (one_led d c.args.q c.loop-last.edges.now c.in-Some.earlier.now c.in-Some.last.now c.loop-last.targets.items new c.in-Some.ensures.cases.0 long
          (subst (λ (old : List ℕ). (k : ℕ) → k < length old → get_or new k 0 ≡ cond (takes k (as_move c.in-Some.last.now)) c.in-Some.last.now.to (get_or old k 0))
          c.deref_mut.ensures.value c.in_ok-lead_along.ensures.led)
          c.loop-last.invariant.led);
      sized = front_of (IsSized (length d.over)) c.in-Some.earlier.now (c.in-Some.last.now ∷ [])
          (subst (All (IsSized (length d.over))) c.in-Some.ensures.cases.0 c.loop-last.invariant.sized);
    }

pub lead_along-requires : goal.lead_along-requires
lead_along-requires c x is =
    last_of (IsSized (length c.args.dfa.now.over)) c.in-Some.earlier.now c.in-Some.last.now
    (subst (All (IsSized (length c.args.dfa.now.over))) c.in-Some.ensures.cases.0 c.loop-last.invariant.sized) x is
    ∙ sym c.loop-last.invariant.led.long ∙ sym (ap length c.deref_mut.ensures.value)

pub returns-clause-led : goal.returns-clause-led
returns-clause-led c =
    all_led c.args.dfa.now c.args.q c.loop-last.targets.items
    (subst (λ edges. AreLed c.args.dfa.now c.args.q edges c.loop-last.targets.items) (none_left c.loop-last.edges.now c.in_default.ensures.cases) c.loop-last.invariant.led)
