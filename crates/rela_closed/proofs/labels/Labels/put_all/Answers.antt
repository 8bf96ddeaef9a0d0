use Rattle.std.proofs.Common.{map, take, refl, sym, ap, ◌∙◌, subst, arith}
use Rattle.std.proofs.lemmas.List.{take_all}
use Rattle.rela_nfa.specs.Stored.{move_of}
use Rattle.rela_closed.specs.Splitting.{AreSorted}
use Rattle.rela_closed.proofs.Readers.{map_take_more}
use Rattle.rela_closed.proofs.SortedOut.{more_more, more_same, sorted_more}
use Rattle.rela_closed.proofs.labels.Labels.put_all.Goals as goal

pub loop-edge-init : goal.loop-edge-init
loop-edge-init g c = record {
  size = refl;
  more = λ over. more_same over c.args.self.now;
  sorted = λ over i d below. absurd (omega (arith, below));
}

pub put_of-requires : goal.put_of-requires
put_of-requires g c = λ label is.
    c.requires c.loop-edge.edge-index c.edge-item.result c.loop-edge-test.true label (ap (λ e. e.label) (sym c.edge-item.is) ∙ is) ∙ sym c.loop-edge.invariant.size

pub loop-edge-preserved : goal.loop-edge-preserved
loop-edge-preserved g c =
    let move = move_of g.L.LabelSet.letters in
    record {
      size = c.in_ok-put_of.ensures.size ∙ c.loop-edge.invariant.size;
      more = λ over. more_more over c.args.self.now c.loop-edge.self c.put_of.new.self (c.loop-edge.invariant.more over) (c.in_ok-put_of.ensures.more over);
      sorted = λ over.
          sorted_more over c.loop-edge.self c.put_of.new.self (map move (take c.loop-edge.edge-index c.args.edges.now)) _ (move c.edge-item.result)
          (map_take_more move c.args.edges.now c.loop-edge.edge-index c.edge-item.result c.loop-edge-test.true c.edge-item.is) (c.in_ok-put_of.ensures.more over)
          (c.loop-edge.invariant.sorted over) (c.in_ok-put_of.ensures.sorted over);
    }

pub returns-clause-sorted : goal.returns-clause-sorted
returns-clause-sorted g c = λ over.
    subst (λ es. AreSorted over c.loop-edge.self (map (move_of g.L.LabelSet.letters) es)) (take_all c.loop-edge.edge-index c.args.edges.now c.loop-edge-test.false) (c.loop-edge.invariant.sorted over)
