use Rattle.std.proofs.Common.{◌<◌, ℕ, List, length, arith, sym, subst, ◌∙◌}
use Rattle.std.specs.List.{Contains}
use Rattle.std.proofs.lemmas.List.{get_or_default}
use Rattle.rela_witness.specs.Linked.{IsLinked}
use Rattle.rela_witness.specs.Numbered.{Grows, HasNumber, Spread}
use Rattle.rela_witness.proofs.Growing.{closing_none, closing_more, closed_all, closing_bounded, layer_within}
use Rattle.rela_witness.proofs.numbers.close.Goals.{After-index-q}
use Rattle.rela_witness.proofs.numbers.close.Goals as goal

pub loop-done-init : goal.loop-done-init
loop-done-init c = closing_none (IsLinked c.args.links.now) c.args.number c.args.numbers.now.items c.args.layer.now.items

within : (c : After-index-q) → c.loop-done.done < length c.loop-done.layer.items
within c = omega (arith, c.loop-done-test.true, c.len.ensures, c.loop-done.layer.ok.0)

state : (c : After-index-q) → c.index-q.result.now < length c.args.numbers.now.items
state c =
    layer_within (Spread (IsLinked c.args.links.now) (Contains c.args.layer.now.items)) (Contains c.args.layer.now.items) c.args.number c.args.numbers.now.items c.loop-done.numbers.items
    c.args.layer.now.items c.loop-done.layer.items c.loop-done.invariant.grows c.requires.layer c.index-q.result.now (c.loop-done.done, within c, sym c.index-q.ensures)

pub ends-requires : goal.ends-requires
ends-requires c = omega (arith, state (goal.at.ends-requires c).After-index-q, c.requires.states, c.args.numbers.now.ok.0)

pub enter_all-requires : goal.enter_all-requires
enter_all-requires c = λ k d below.
    omega (arith, c.ends.ensures.states k d below, c.requires.states, c.args.numbers.now.ok.0, c.loop-done.numbers.ok.0, c.loop-done.invariant.grows.count)

pub loop-done-smaller : goal.loop-done-smaller
loop-done-smaller c =
    omega (
      arith,
      within (goal.at.loop-done-smaller c).After-index-q,
      closing_bounded (IsLinked c.args.links.now) c.args.number c.args.numbers.now.items c.args.layer.now.items c.loop-done.numbers.items c.loop-done.layer.items c.loop-done.done c.loop-done.invariant,
    )

pub loop-done-preserved : goal.loop-done-preserved
loop-done-preserved c =
    let below = within (goal.at.loop-done-preserved c).After-index-q in
    let layer = c.loop-done.layer.items in
    let q = c.index-q.result.now in
    closing_more (IsLinked c.args.links.now) c.args.number c.args.numbers.now.items c.args.layer.now.items c.loop-done.numbers.items c.enter_all.new.numbers.items layer
    c.enter_all.new.layer.items c.loop-done.done q c.requires.layer below (c.index-q.ensures ∙ get_or_default layer c.loop-done.done q 0 below) c.loop-done.invariant
    (subst (λ (l : List ℕ). Grows (Contains l) c.args.number c.loop-done.numbers.items c.enter_all.new.numbers.items layer c.enter_all.new.layer.items) c.ends.ensures.ends c.in_ok-enter_all.ensures.grows)
    (subst (λ (l : List ℕ). (n : ℕ) → Contains l n → HasNumber c.enter_all.new.numbers.items n) c.ends.ensures.ends c.in_ok-enter_all.ensures.entered)

pub returns-clause-grows : goal.returns-clause-grows
returns-clause-grows c = c.loop-done.invariant.grows

pub returns-clause-done : goal.returns-clause-done
returns-clause-done c =
    closed_all (IsLinked c.args.links.now) c.args.number c.args.numbers.now.items c.args.layer.now.items c.loop-done.numbers.items c.loop-done.layer.items c.loop-done.done
    (omega (arith, c.loop-done-test.false, c.len.ensures, c.loop-done.layer.ok.0)) c.loop-done.invariant
