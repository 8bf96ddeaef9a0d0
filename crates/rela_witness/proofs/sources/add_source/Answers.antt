use Rattle.std.proofs.Common.{List, ℕ, ◌+◌, length, take, sym, ap, ◌∙◌, refl, subst}
use Rattle.std.proofs.lemmas.Bool.{both_ways}
use Rattle.rela_witness.proofs.Turning.{IsTurned, turned_none, turned_more, turned_past, turned_all}
use Rattle.rela_witness.proofs.sources.add_source.Goals.{then-is_of_kind+in_ok-add, else-is_of_kind}
use Rattle.rela_witness.proofs.sources.add_source.Goals as goal

pub loop-edge-init : goal.loop-edge-init
loop-edge-init g c = record {
  count = refl;
  turned = turned_none g.L.LabelSet.letters c.args.kind c.args.p c.edges-edge-items.result.now c.args.links.now;
}

pub loop-edge-preserved : goal.loop-edge-preserved
loop-edge-preserved g c =
    let letters = g.L.LabelSet.letters in
    let edges = c.edges-edge-items.result.now in
    let i = c.loop-edge.edge-index in
    let edge = c.edge-item.result in
    let now = c.loop-edge.links in
    elim c.if-is_of_kind.branch [
      | then-is_of_kind+in_ok-add w ↦ record {
        count = ap length w.links-is ∙ w.in_ok-add.ensures.count ∙ c.loop-edge.invariant.count;
        turned =
            subst (λ (new : List (List ℕ)). IsTurned letters c.args.kind c.args.p (take (i + 1) edges) c.args.links.now new) (sym w.links-is)
            (turned_more letters c.args.kind c.args.p edges c.args.links.now now i edge c.loop-edge-test.true c.edge-item.is c.loop-edge.invariant.turned w.add.new.self
            (c.is_of_kind.ensures.0 w.if-is_of_kind.true) w.in_ok-add.ensures.added);
      }
      | else-is_of_kind w ↦ record {
        count = ap length w.links-is ∙ c.loop-edge.invariant.count;
        turned =
            subst (λ (new : List (List ℕ)). IsTurned letters c.args.kind c.args.p (take (i + 1) edges) c.args.links.now new) (sym w.links-is)
            (turned_past letters c.args.kind c.args.p edges c.args.links.now now i edge c.loop-edge-test.true c.edge-item.is c.loop-edge.invariant.turned
            (λ of. both_ways c.is_of_kind.result w.if-is_of_kind.false (c.is_of_kind.ensures.1 of)));
      }
    ]

pub returns-clause-added : goal.returns-clause-added
returns-clause-added g c =
    turned_all g.L.LabelSet.letters c.args.kind c.args.p c.edges-edge-items.result.now c.args.links.now c.args.a.now c.loop-edge.links c.loop-edge.edge-index
    c.edges-edge-items.ensures.moves c.loop-edge-test.false c.loop-edge.invariant.turned
