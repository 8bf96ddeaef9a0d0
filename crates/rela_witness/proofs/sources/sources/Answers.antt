use Rattle.std.proofs.Common.{◌≤◌, arith, ◌∙◌}
use Rattle.rela_nfa.specs.Automaton.{states}
use Rattle.rela_witness.proofs.Turning.{below_nothing, below_one_more, below_all}
use Rattle.rela_witness.proofs.sources.sources.Goals as goal

pub loop-p-init : goal.loop-p-init
loop-p-init g c = record {
  count = c.in_ok-links.ensures.count ∙ c.states.ensures.states;
  edges = below_nothing c.args.a.now c.args.kind c.in_ok-links.links c.in_ok-links.ensures.none;
}

pub loop-p-preserved : goal.loop-p-preserved
loop-p-preserved g c = record {
  count = c.in_ok-add_source.ensures.count ∙ c.loop-p.invariant.count;
  edges = below_one_more c.args.a.now c.args.kind c.loop-p.p c.loop-p.links c.add_source.new.links c.loop-p.invariant.edges c.in_ok-add_source.ensures.added;
}

pub returns-clause-edges : goal.returns-clause-edges
returns-clause-edges g c =
    let over : states c.args.a.now ≤ c.loop-p.p = omega (arith, c.states-p-end.ensures.states, c.loop-p-test.false) in
    below_all c.args.a.now c.args.kind c.states-p-end.ensures.automaton c.loop-p.p c.loop-p.links over c.loop-p.invariant.edges
