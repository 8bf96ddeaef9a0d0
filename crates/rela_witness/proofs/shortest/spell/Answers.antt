use Rattle.std.proofs.Common.{◌≡◌, ◌<◌, ◌+◌, ◌-◌, ℕ, List, [], None, Some, length, get_or, replicate, arith, rules, sym, subst, ap, ◌∙◌}
use Rattle.std.specs.List.{All, Contains}
use Rattle.std.proofs.lemmas.List.{length-replicate}
use Rattle.std.proofs.lemmas.List.Elements.{Contains-get_or}
use Rattle.rela_nfa.specs.Automaton.{states}
use Rattle.rela_witness.specs.Finishing.{Continues, LeadsTo}
use Rattle.rela_witness.specs.Labels.{IsLeast}
use Rattle.rela_witness.specs.Numbered.{HasNumber, Grows, Spread, After, IsDone}
use Rattle.rela_witness.proofs.Growing.{layer_within}
use Rattle.rela_witness.proofs.Spelling.{choosing_start, choosing_more, some_continues, chosen}
use Rattle.rela_witness.proofs.shortest.spell.Given.{Over}
use Rattle.rela_witness.proofs.shortest.spell.Goals.{In_ok-word, In_ok-close_onward}
use Rattle.rela_witness.proofs.shortest.spell.Goals as goal

module _ (g : Over) (c : In_ok-word g) where
  none : c.in_ok-numbers.numbers.items ≡ replicate c.states.result None
  none = c.in_ok-numbers.ensures.items_if_clones_equal (λ y e. search rules)

  first_layer : Grows (λ p. c.args.a.now.start ≡ p) c.args.len c.in_ok-numbers.numbers.items c.enter.new.numbers.items [] c.enter.new.layer.items
  first_layer =
      subst (λ n. Grows (λ p. n ≡ p) c.args.len c.in_ok-numbers.numbers.items c.enter.new.numbers.items [] c.enter.new.layer.items) c.start.ensures.start
      (subst (λ (l : List ℕ). Grows (λ p. c.start.result ≡ p) c.args.len c.in_ok-numbers.numbers.items c.enter.new.numbers.items l c.enter.new.layer.items) c.new-layer.ensures.items
      c.in_ok-enter.ensures.grows)

pub loop-left-init : goal.loop-left-init
loop-left-init g c = record {
  count = (first_layer g c).count ∙ ap length (none g c) ∙ length-replicate c.states.result None ∙ c.states.ensures.states;
  choosing =
      choosing_start c.args.a.now c.args.distances.now c.in_ok-word.word.items c.args.len c.states.result c.in_ok-numbers.numbers.items c.enter.new.numbers.items c.enter.new.layer.items
      c.in_ok-word.ensures.items (none g c) c.requires.len (first_layer g c)
      (subst (λ n. HasNumber c.enter.new.numbers.items n) c.start.ensures.start c.in_ok-enter.ensures.entered);
}

-- the layer is of states alone
half_states : (g : Over) (c : In_ok-close_onward g) → All (λ q. q < states c.args.a.now) c.close_onward.new.layer.items
half_states g c = λ k d below.
    let half = c.close_onward.new.layer.items in
    let state =
    layer_within (Spread (LeadsTo c.args.a.now c.args.distances.now c.loop-left.left None) (Contains c.loop-left.layer.items)) (Contains half) c.loop-left.left c.loop-left.numbers.items
    c.close_onward.new.numbers.items c.loop-left.layer.items half c.in_ok-close_onward.ensures.grows c.loop-left.invariant.choosing.listed (get_or half k d) (Contains-get_or half k d below) in
    omega (arith, state, c.loop-left.invariant.count)

pub least_letter-requires-clause-states : goal.least_letter-requires-clause-states
least_letter-requires-clause-states g c =
    subst (λ (l : List ℕ). All (λ q. q < states c.args.a.now) l) (sym c.deref.ensures.value) (half_states g (goal.at.least_letter-requires-clause-states g c).In_ok-close_onward)

pub layer_after-requires-clause-states : goal.layer_after-requires-clause-states
layer_after-requires-clause-states g c =
    subst (λ (l : List ℕ). All (λ q. q < states c.args.a.now) l) (sym c.deref-in-loop-left.ensures.value) (half_states g (goal.at.layer_after-requires-clause-states g c).In_ok-close_onward)

pub unreachable-requires : goal.unreachable-requires
unreachable-requires g c =
    let is : c.loop-left.left ≡ c.loop-left.left - 1 + 1 = omega (arith, c.loop-left-test.true) in
    let half = c.close_onward.new.layer.items in
    let some =
    some_continues c.args.a.now c.args.distances.now c.requires.distances c.loop-left.word.items c.loop-left.left (c.loop-left.left - 1) is c.loop-left.numbers.items c.loop-left.layer.items
    c.loop-left.invariant.choosing c.close_onward.new.numbers.items half c.in_ok-close_onward.ensures.grows c.in_ok-close_onward.ensures.done in
    c.in-None.ensures some.0 (subst (λ (l : List ℕ). Continues c.args.a.now c.args.distances.now (c.loop-left.left - 1) l some.0) (sym c.deref.ensures.value) some.1)

pub loop-left-preserved : goal.loop-left-preserved
loop-left-preserved g c =
    let a = c.args.a.now in
    let d = c.args.distances.now in
    let r = c.loop-left.left - 1 in
    let k = c.in-Some.letter in
    let mid = c.close_onward.new.numbers.items in
    let half = c.close_onward.new.layer.items in
    let new = c.layer_after.new.numbers.items in
    let next = c.in_ok-layer.layer.items in
    let is : c.loop-left.left ≡ r + 1 = omega (arith, c.loop-left-test.true) in
    let least : IsLeast (Continues a d r half) (Some k) = subst (λ (l : List ℕ). IsLeast (Continues a d r l) (Some k)) c.deref.ensures.value c.in-Some.ensures in
    let grows : Grows (After (LeadsTo a d r (Some k)) half) r mid new [] next =
    subst (λ (l : List ℕ). Grows (After (LeadsTo a d r (Some k)) l) r mid new [] next) c.deref-in-loop-left.ensures.value c.in_ok-layer.ensures.grows in
    let done : IsDone (LeadsTo a d r (Some k)) new half =
    subst (λ (l : List ℕ). IsDone (LeadsTo a d r (Some k)) new l) c.deref-in-loop-left.ensures.value c.in_ok-layer.ensures.done in
    record {
      count = grows.count ∙ c.in_ok-close_onward.ensures.grows.count ∙ c.loop-left.invariant.count;
      choosing =
          choosing_more a d c.requires.distances c.loop-left.word.items c.loop-left.left r is c.loop-left.numbers.items c.loop-left.layer.items c.loop-left.invariant.choosing mid half
          c.in_ok-close_onward.ensures.grows c.in_ok-close_onward.ensures.done k least new next grows done c.push.new.self.items c.in_ok-push.ensures.items;
    }

pub returns : goal.returns
returns g c =
    chosen c.args.a.now c.args.distances.now c.requires.distances c.loop-left.word.items c.loop-left.left c.loop-left.numbers.items c.loop-left.layer.items
    (omega (arith, c.loop-left-test.false)) c.loop-left.invariant.choosing
