use Rattle.std.proofs.Common.{◌+◌, ◌<◌, length, take, sym, subst, rules}
use Rattle.rela_subset.specs.Deterministic.{moves_of}
use Rattle.rela_minimise.specs.Joining.{AreOnto}
use Rattle.rela_minimise.proofs.Joined.{all_more, all_silent, edge_within, put_free, put_sized}
use Rattle.rela_minimise.proofs.Ordered.{none_read}
use Rattle.rela_minimise.proofs.quotient.put_all.Goals as goal
use Rattle.rela_minimise.proofs.quotient.put_all.Goals.{in-Some+in_ok-put, in_default}

pub bounds-classes-edge : goal.bounds-classes-edge
bounds-classes-edge g c =
    edge_within c.args.dfa.now c.requires.deterministic c.args.q c.requires.state c.args.classes.now c.requires.classes g.L.LabelSet.letters c.edges-edge-items.result.now c.edges-edge-items.ensures c.loop-edge.edge-index c.loop-edge-test.true
    c.edge-item.result c.edge-item.is c.loop-edge.joined c.loop-edge.invariant

pub offset_bounds-classes-edge : goal.offset_bounds-classes-edge
offset_bounds-classes-edge g c =
    let below : c.edge-item.result.to < length c.args.classes.now = edge_within c.args.dfa.now c.requires.deterministic c.args.q c.requires.state c.args.classes.now c.requires.classes g.L.LabelSet.letters c.edges-edge-items.result.now c.edges-edge-items.ensures c.loop-edge.edge-index c.loop-edge-test.true
    c.edge-item.result c.edge-item.is c.loop-edge.joined c.loop-edge.invariant in search rules

pub put-requires-clause-sized : goal.put-requires-clause-sized
put-requires-clause-sized g c =
    put_sized c.args.dfa.now c.requires.deterministic c.args.q c.requires.state c.args.classes.now c.requires.classes g.L.LabelSet.letters c.edges-edge-items.result.now c.edges-edge-items.ensures c.loop-edge.edge-index c.loop-edge-test.true
    c.edge-item.result c.edge-item.is c.loop-edge.joined c.loop-edge.invariant c.in-Some.label c.in-Some.is

pub put-requires-clause-free : goal.put-requires-clause-free
put-requires-clause-free g c =
    put_free c.args.dfa.now c.requires.deterministic c.args.q c.requires.state c.args.classes.now c.requires.classes g.L.LabelSet.letters c.edges-edge-items.result.now c.edges-edge-items.ensures c.loop-edge.edge-index c.loop-edge-test.true
    c.edge-item.result c.edge-item.is c.loop-edge.joined c.loop-edge.invariant c.in-Some.label c.in-Some.is

pub loop-edge-preserved : goal.loop-edge-preserved
loop-edge-preserved g c = elim c.match-edge.branch [
  | in-Some+in_ok-put w ↦
      subst (AreOnto (length c.args.dfa.now.over) c.args.classes.now (take (c.loop-edge.edge-index + 1) (moves_of c.args.dfa.now c.args.q))) (sym w.joined-is)
      (all_more c.args.dfa.now c.requires.deterministic c.args.q c.requires.state c.args.classes.now c.requires.classes g.L.LabelSet.letters c.edges-edge-items.result.now c.edges-edge-items.ensures c.loop-edge.edge-index c.loop-edge-test.true
      c.edge-item.result c.edge-item.is c.loop-edge.joined c.loop-edge.invariant w.in-Some.label w.in-Some.is w.put.new.bundle w.in_ok-put.ensures)
  | in_default w ↦
      subst (AreOnto (length c.args.dfa.now.over) c.args.classes.now (take (c.loop-edge.edge-index + 1) (moves_of c.args.dfa.now c.args.q))) (sym w.joined-is)
      (all_silent c.args.dfa.now c.requires.deterministic c.args.q c.requires.state c.args.classes.now c.requires.classes g.L.LabelSet.letters c.edges-edge-items.result.now c.edges-edge-items.ensures c.loop-edge.edge-index c.loop-edge-test.true
      c.edge-item.result c.edge-item.is c.loop-edge.joined c.loop-edge.invariant (none_read c.edge-item.result.label w.in_default.not-Some))
]
