use Rattle.std.proofs.Common.{ℕ, List, [], Some, get_or, arith, sym, subst}
use Rattle.std.proofs.lemmas.List.{get_or_default}
use Rattle.rela_witness.specs.Finishing.{LeadsTo}
use Rattle.rela_witness.proofs.Growing.{Passing, passing_none, passing_more, passed_all}
use Rattle.rela_witness.proofs.onward.layer_after.Goals as goal

pub loop-q-init : goal.loop-q-init
loop-q-init g c =
    subst (λ (l : List ℕ). Passing (LeadsTo c.args.a.now c.args.distances.now c.args.distance (Some c.args.letter)) c.args.distance c.args.numbers.now.items c.args.numbers.now.items [] l c.args.layer.now 0)
    (sym c.new-next.ensures.items)
    (passing_none (LeadsTo c.args.a.now c.args.distances.now c.args.distance (Some c.args.letter)) c.args.distance c.args.numbers.now.items [] c.args.layer.now)

pub enter_ends-requires-clause-state : goal.enter_ends-requires-clause-state
enter_ends-requires-clause-state g c = c.requires.states c.loop-q.q-index 0 c.loop-q-test.true

pub enter_ends-requires-clause-numbers : goal.enter_ends-requires-clause-numbers
enter_ends-requires-clause-numbers g c = omega (arith, c.requires.numbers, c.args.numbers.now.ok.0, c.loop-q.numbers.ok.0, c.loop-q.invariant.grows.count)

pub loop-q-preserved : goal.loop-q-preserved
loop-q-preserved g c =
    let layer = c.args.layer.now in
    let i = c.loop-q.q-index in
    passing_more (LeadsTo c.args.a.now c.args.distances.now c.args.distance (Some c.args.letter)) c.args.distance c.args.numbers.now.items [] layer c.loop-q.numbers.items
    c.enter_ends.new.numbers.items c.loop-q.next.items c.enter_ends.new.layer.items i (get_or layer i 0) c.loop-q-test.true
    (get_or_default layer i 0 (get_or layer i 0) c.loop-q-test.true) c.loop-q.invariant c.in_ok-enter_ends.ensures.grows c.in_ok-enter_ends.ensures.entered

pub returns-clause-grows : goal.returns-clause-grows
returns-clause-grows g c =
    (passed_all (LeadsTo c.args.a.now c.args.distances.now c.args.distance (Some c.args.letter)) c.args.distance c.args.numbers.now.items [] c.args.layer.now c.loop-q.numbers.items
    c.loop-q.next.items c.loop-q.q-index c.loop-q-test.false c.loop-q.invariant).0

pub returns-clause-done : goal.returns-clause-done
returns-clause-done g c =
    let passed =
    passed_all (LeadsTo c.args.a.now c.args.distances.now c.args.distance (Some c.args.letter)) c.args.distance c.args.numbers.now.items [] c.args.layer.now c.loop-q.numbers.items
    c.loop-q.next.items c.loop-q.q-index c.loop-q-test.false c.loop-q.invariant in
    λ p q among leads. passed.1 p q among leads
