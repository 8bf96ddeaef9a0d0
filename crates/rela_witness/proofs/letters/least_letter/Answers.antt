use Rattle.std.proofs.Common.{ℕ, Some, get_or}
use Rattle.std.proofs.lemmas.List.{get_or_default}
use Rattle.rela_witness.specs.Finishing.{LeadsTo}
use Rattle.rela_witness.proofs.Leasts.{least_none, least_more, least_all}
use Rattle.rela_witness.proofs.letters.least_letter.Goals as goal

pub loop-q-init : goal.loop-q-init
loop-q-init g c = least_none (λ p k. (q : ℕ) × LeadsTo c.args.a.now c.args.distances.now c.args.distance (Some k) p q) c.args.layer.now

pub least_from-requires-clause-state : goal.least_from-requires-clause-state
least_from-requires-clause-state g c = c.requires.states c.loop-q.q-index 0 c.loop-q-test.true

pub loop-q-preserved : goal.loop-q-preserved
loop-q-preserved g c =
    let layer = c.args.layer.now in
    let i = c.loop-q.q-index in
    least_more (λ p k. (q : ℕ) × LeadsTo c.args.a.now c.args.distances.now c.args.distance (Some k) p q) layer i (get_or layer i 0) c.loop-q.least c.least_from.result
    c.lesser-least.result c.loop-q-test.true (get_or_default layer i 0 (get_or layer i 0) c.loop-q-test.true) c.lesser-least.ensures c.loop-q.invariant c.least_from.ensures

pub returns : goal.returns
returns g c =
    least_all (λ p k. (q : ℕ) × LeadsTo c.args.a.now c.args.distances.now c.args.distance (Some k) p q) c.args.layer.now c.loop-q.q-index c.loop-q.least c.loop-q-test.false c.loop-q.invariant
