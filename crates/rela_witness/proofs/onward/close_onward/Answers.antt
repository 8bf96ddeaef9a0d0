use Rattle.std.proofs.Common.{◌<◌, None, length, arith, sym, ◌∙◌}
use Rattle.std.specs.List.{Contains}
use Rattle.std.proofs.lemmas.List.{get_or_default}
use Rattle.rela_witness.specs.Finishing.{LeadsTo}
use Rattle.rela_witness.specs.Numbered.{Spread}
use Rattle.rela_witness.proofs.Growing.{closing_none, closing_more, closed_all, closing_bounded, layer_within}
use Rattle.rela_witness.proofs.onward.close_onward.Given.{Over}
use Rattle.rela_witness.proofs.onward.close_onward.Goals.{After-index-q}
use Rattle.rela_witness.proofs.onward.close_onward.Goals as goal

pub loop-done-init : goal.loop-done-init
loop-done-init g c = closing_none (LeadsTo c.args.a.now c.args.distances.now c.args.distance None) c.args.distance c.args.numbers.now.items c.args.layer.now.items

within : (g : Over) (c : After-index-q g) → c.loop-done.done < length c.loop-done.layer.items
within g c = omega (arith, c.loop-done-test.true, c.len.ensures, c.loop-done.layer.ok.0)

pub enter_ends-requires-clause-state : goal.enter_ends-requires-clause-state
enter_ends-requires-clause-state g c =
    let before = (goal.at.enter_ends-requires-clause-state g c).After-index-q in
    let state =
    layer_within (Spread (LeadsTo c.args.a.now c.args.distances.now c.args.distance None) (Contains c.args.layer.now.items)) (Contains c.args.layer.now.items) c.args.distance
    c.args.numbers.now.items c.loop-done.numbers.items c.args.layer.now.items c.loop-done.layer.items c.loop-done.invariant.grows c.requires.layer c.index-q.result.now
    (c.loop-done.done, within g before, sym c.index-q.ensures) in
    omega (arith, state, c.requires.numbers, c.args.numbers.now.ok.0)

pub enter_ends-requires-clause-numbers : goal.enter_ends-requires-clause-numbers
enter_ends-requires-clause-numbers g c = omega (arith, c.requires.numbers, c.args.numbers.now.ok.0, c.loop-done.numbers.ok.0, c.loop-done.invariant.grows.count)

pub loop-done-smaller : goal.loop-done-smaller
loop-done-smaller g c =
    omega (
      arith,
      within g (goal.at.loop-done-smaller g c).After-index-q,
      closing_bounded (LeadsTo c.args.a.now c.args.distances.now c.args.distance None) c.args.distance c.args.numbers.now.items c.args.layer.now.items c.loop-done.numbers.items
          c.loop-done.layer.items c.loop-done.done c.loop-done.invariant,
    )

pub loop-done-preserved : goal.loop-done-preserved
loop-done-preserved g c =
    let below = within g (goal.at.loop-done-preserved g c).After-index-q in
    let layer = c.loop-done.layer.items in
    let q = c.index-q.result.now in
    closing_more (LeadsTo c.args.a.now c.args.distances.now c.args.distance None) c.args.distance c.args.numbers.now.items c.args.layer.now.items c.loop-done.numbers.items
    c.enter_ends.new.numbers.items layer c.enter_ends.new.layer.items c.loop-done.done q c.requires.layer below
    (c.index-q.ensures ∙ get_or_default layer c.loop-done.done q 0 below) c.loop-done.invariant c.in_ok-enter_ends.ensures.grows c.in_ok-enter_ends.ensures.entered

pub returns-clause-grows : goal.returns-clause-grows
returns-clause-grows g c = c.loop-done.invariant.grows

pub returns-clause-done : goal.returns-clause-done
returns-clause-done g c =
    closed_all (LeadsTo c.args.a.now c.args.distances.now c.args.distance None) c.args.distance c.args.numbers.now.items c.args.layer.now.items c.loop-done.numbers.items
    c.loop-done.layer.items c.loop-done.done (omega (arith, c.loop-done-test.false, c.len.ensures, c.loop-done.layer.ok.0)) c.loop-done.invariant
