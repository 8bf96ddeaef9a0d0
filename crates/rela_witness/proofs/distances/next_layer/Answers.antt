use Rattle.std.proofs.Common.{ℕ, List, [], get_or, arith, sym, subst}
use Rattle.std.specs.List.{Contains}
use Rattle.std.proofs.lemmas.List.{get_or_default}
use Rattle.std.proofs.lemmas.List.Elements.{Contains-get_or}
use Rattle.rela_witness.specs.Linked.{IsLinked}
use Rattle.rela_witness.specs.Numbered.{Grows, HasNumber}
use Rattle.rela_witness.proofs.Growing.{Passing, passing_none, passing_more, passed_all, number_within}
use Rattle.rela_witness.proofs.distances.next_layer.Goals as goal

pub loop-q-init : goal.loop-q-init
loop-q-init c =
    subst (λ (l : List ℕ). Passing (IsLinked c.args.links.now) c.args.number c.args.numbers.now.items c.args.numbers.now.items [] l c.args.layer.now 0) (sym c.new-next.ensures.items)
    (passing_none (IsLinked c.args.links.now) c.args.number c.args.numbers.now.items [] c.args.layer.now)

pub ends-requires : goal.ends-requires
ends-requires c =
    let layer = c.args.layer.now in
    let has = c.requires.layer (get_or layer c.loop-q.q-index 0) (Contains-get_or layer c.loop-q.q-index 0 c.loop-q-test.true) in
    omega (arith, number_within c.args.numbers.now.items (get_or layer c.loop-q.q-index 0) has.0 has.1, c.requires.states, c.args.numbers.now.ok.0)

pub enter_all-requires : goal.enter_all-requires
enter_all-requires c = λ k d below.
    omega (arith, c.ends.ensures.states k d below, c.requires.states, c.args.numbers.now.ok.0, c.loop-q.numbers.ok.0, c.loop-q.invariant.grows.count)

pub loop-q-preserved : goal.loop-q-preserved
loop-q-preserved c =
    let layer = c.args.layer.now in
    let i = c.loop-q.q-index in
    passing_more (IsLinked c.args.links.now) c.args.number c.args.numbers.now.items [] layer c.loop-q.numbers.items c.enter_all.new.numbers.items c.loop-q.next.items
    c.enter_all.new.layer.items i (get_or layer i 0) c.loop-q-test.true (get_or_default layer i 0 (get_or layer i 0) c.loop-q-test.true) c.loop-q.invariant
    (subst (λ (l : List ℕ). Grows (Contains l) c.args.number c.loop-q.numbers.items c.enter_all.new.numbers.items c.loop-q.next.items c.enter_all.new.layer.items) c.ends.ensures.ends
    c.in_ok-enter_all.ensures.grows)
    (subst (λ (l : List ℕ). (n : ℕ) → Contains l n → HasNumber c.enter_all.new.numbers.items n) c.ends.ensures.ends c.in_ok-enter_all.ensures.entered)

pub returns-clause-grows : goal.returns-clause-grows
returns-clause-grows c =
    (passed_all (IsLinked c.args.links.now) c.args.number c.args.numbers.now.items [] c.args.layer.now c.loop-q.numbers.items c.loop-q.next.items c.loop-q.q-index c.loop-q-test.false
    c.loop-q.invariant).0

pub returns-clause-done : goal.returns-clause-done
returns-clause-done c =
    let passed =
    passed_all (IsLinked c.args.links.now) c.args.number c.args.numbers.now.items [] c.args.layer.now c.loop-q.numbers.items c.loop-q.next.items c.loop-q.q-index c.loop-q-test.false
    c.loop-q.invariant in
    λ p q among link. passed.1 p q among link
