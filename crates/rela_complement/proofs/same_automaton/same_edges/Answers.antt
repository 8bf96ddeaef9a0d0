use Rattle.std.proofs.Common.{◌≡◌, true, false}
use Rattle.rela_nfa.specs.Stored.{move_of}
use Rattle.rela_complement.proofs.SameLists.{same_there, one_more}
use Rattle.rela_complement.proofs.same_automaton.same_edges.Goals as goal

pub returns-then-not-same_edge : goal.returns-then-not-same_edge
returns-then-not-same_edge g c = (
  λ t. let no : false ≡ true = t in cc,
  λ same.
      let yes : c.same_edge.result ≡ true =
      c.same_edge.ensures.1
      (same_there (move_of g.L.LabelSet.letters) c.args.edges.now c.args.others.now c.loop-at.at _ _ c.index-edges-at.result c.index-others-at.result
      c.loop-at-test.true c.if-edges-others.false c.index-edges-at.is c.index-others-at.is same) in
      let no = c.if-not-same_edge.true in cc,
)

pub loop-at-preserved : goal.loop-at-preserved
loop-at-preserved g c =
    let yes : c.same_edge.result ≡ true = let no = c.if-not-same_edge.false in cc in
    one_more (move_of g.L.LabelSet.letters) c.args.edges.now c.args.others.now c.loop-at.at _ _ c.index-edges-at.result c.index-others-at.result
    c.loop-at-test.true c.if-edges-others.false c.index-edges-at.is c.index-others-at.is c.loop-at.invariant
    (c.same_edge.ensures.0 yes)
