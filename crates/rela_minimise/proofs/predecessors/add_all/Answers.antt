use Rattle.std.proofs.Common.{◌<◌, length, subst, sym, ◌∙◌}
use Rattle.std.proofs.lemmas.List.{length-map}
use Rattle.rela_minimise.specs.Stored.{lists_of}
use Rattle.rela_minimise.proofs.Putting.{added_more}
use Rattle.rela_minimise.proofs.predecessors.add_all.Goals as goal

pub loop-edge-preserved : goal.loop-edge-preserved
loop-edge-preserved g c =
    added_more g.L.LabelSet.letters c.args.edges.now c.loop-edge.edge-index c.args.p c.edge-item.result (lists_of c.args.lists.now.items) (lists_of c.loop-edge.lists.items) (lists_of c.put.new.lists.items)
    c.loop-edge-test.true c.edge-item.is c.loop-edge.invariant
    (subst (λ n. c.edge-item.result.to < n) (sym (length-map c.args.lists.now.items (λ list. list.items)) ∙ sym c.loop-edge.invariant.each)
    (subst (λ edge. edge.to < length c.args.lists.now.items) (sym c.edge-item.is) (c.requires c.loop-edge.edge-index c.edge-item.result c.loop-edge-test.true)))
    c.in_ok-put.ensures
