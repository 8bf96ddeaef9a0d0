use Rattle.std.proofs.Common.{Some, arith}
use Rattle.rela_nfa.specs.Automaton.{states}
use Rattle.rela_witness.proofs.Leading.{EdgeGoes, edge_within, edges_least}
use Rattle.rela_witness.proofs.Leasts.{least_none, least_more}
use Rattle.rela_witness.proofs.letters.least_from.Goals as goal

pub loop-edge-init : goal.loop-edge-init
loop-edge-init g c = least_none (λ edge k. EdgeGoes g.L.LabelSet.letters c.args.distances.now c.args.distance (Some k) edge) c.edges-edge-items.result.now

pub least_of-requires : goal.least_of-requires
least_of-requires g c =
    let to =
    edge_within c.edges-edge-items.result.now (states c.args.a.now) c.loop-edge.edge-index c.edge-item.result c.edges-edge-items.ensures.lead c.loop-edge-test.true c.edge-item.is in
    omega (arith, to, c.requires.count)

pub loop-edge-preserved : goal.loop-edge-preserved
loop-edge-preserved g c =
    let edges = c.edges-edge-items.result.now in
    let i = c.loop-edge.edge-index in
    least_more (λ edge k. EdgeGoes g.L.LabelSet.letters c.args.distances.now c.args.distance (Some k) edge) edges i c.edge-item.result c.loop-edge.least c.least_of.result
    c.lesser-least.result c.loop-edge-test.true c.edge-item.is c.lesser-least.ensures c.loop-edge.invariant c.least_of.ensures

pub returns : goal.returns
returns g c =
    edges_least g.L.LabelSet.letters c.edges-edge-items.result.now c.args.a.now c.args.p c.edges-edge-items.ensures.moves c.args.distances.now c.args.distance c.loop-edge.edge-index
    c.loop-edge.least c.loop-edge-test.false c.loop-edge.invariant
