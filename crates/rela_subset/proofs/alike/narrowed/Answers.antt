use Rattle.std.proofs.Common.{◌≡◌, Bor, Some, refl, sym, subst, ◌∙◌}
use Rattle.rela_nfa.specs.Stored.{move_of}
use Rattle.rela_nfa.specs.declared.edge.Edge.{Edge}
use Rattle.rela_subset.proofs.Narrowing.{narrowed_none, narrowed_more, narrowed_all}
use Rattle.rela_subset.proofs.alike.narrowed.Goals as goal

pub loop-edge-init : goal.loop-edge-init
loop-edge-init g c = record {
  size = refl;
  alike = narrowed_none (λ edge. move_of g.L.LabelSet.letters edge.now) c.args.edges.now c.args.letter (g.L.LabelSet.letters c.args.block);
}

pub cut-requires : goal.cut-requires
cut-requires g c = λ label is.
    c.requires c.loop-edge.edge-index c.edge-item.result c.loop-edge-test.true label (subst (λ (e : Bor (Edge g.row.L.Denot)). e.now.label ≡ Some label) c.edge-item.is is) ∙ sym c.loop-edge.invariant.size

pub loop-edge-preserved : goal.loop-edge-preserved
loop-edge-preserved g c = record {
  size = c.in_ok-narrow.ensures.size ∙ c.loop-edge.invariant.size;
  alike =
      narrowed_more (λ edge. move_of g.L.LabelSet.letters edge.now) c.args.edges.now c.args.letter (g.L.LabelSet.letters c.args.block) c.loop-edge.edge-index c.edge-item.result
      (g.L.LabelSet.letters c.loop-edge.narrow) (g.L.LabelSet.letters c.in_ok-narrow.narrow) c.loop-edge-test.true c.edge-item.is
      c.loop-edge.invariant.alike c.in_ok-narrow.ensures.alike;
}

pub returns-clause-alike : goal.returns-clause-alike
returns-clause-alike g c =
    narrowed_all (λ edge. move_of g.L.LabelSet.letters edge.now) c.args.edges.now c.args.letter (g.L.LabelSet.letters c.args.block) c.loop-edge.edge-index
    (g.L.LabelSet.letters c.loop-edge.narrow) c.loop-edge-test.false c.loop-edge.invariant.alike
