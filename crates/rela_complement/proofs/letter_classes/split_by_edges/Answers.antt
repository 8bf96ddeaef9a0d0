use Rattle.std.proofs.Common.{List, map, subst}
use Rattle.std.proofs.lemmas.List.{take_all}
use Rattle.rela_nfa.specs.Stored.{move_of}
use Rattle.rela_nfa.specs.declared.edge.Edge.{Edge}
use Rattle.rela_complement.specs.Merging.{HaveUnions}
use Rattle.rela_complement.proofs.SplitLetters.{refines_on, unions_more}
use Rattle.rela_complement.proofs.letter_classes.split_by_edges.Goals as goal

pub loop-edge-preserved : goal.loop-edge-preserved
loop-edge-preserved c = record {
  refines = refines_on _ _ _ c.in_ok-split_by_edge.ensures.refines c.loop-edge.invariant.refines;
  unions = unions_more _ _ c.in_ok-split_by_edge.ensures.refines c.args.edges.now c.loop-edge.edge-index c.edge-item.result c.loop-edge-test.true c.edge-item.is
      c.loop-edge.invariant.unions c.in_ok-split_by_edge.ensures.union;
}

pub returns-clause-unions : goal.returns-clause-unions
returns-clause-unions c =
    subst (λ (edges : List (Edge _)). HaveUnions c.loop-edge.splitter (map (move_of (λ set. set)) edges)) (take_all c.loop-edge.edge-index c.args.edges.now c.loop-edge-test.false)
    c.loop-edge.invariant.unions
