use Rattle.std.proofs.Common.{◌≤◌, List, length, subst, arith}
use Rattle.std.specs.List.{All}
use Rattle.std.proofs.lemmas.List.{take_all}
use Rattle.rela_nfa.specs.Automaton.{Move}
use Rattle.rela_complement.specs.Merging.{HaveUnions}
use Rattle.rela_complement.proofs.SplitLetters.{all_more, refines_on}
use Rattle.rela_complement.proofs.letter_classes.split_by_labels.Goals as goal

pub loop-q-preserved : goal.loop-q-preserved
loop-q-preserved c = record {
  refines = refines_on _ _ _ c.in_ok-split_by_edges.ensures.refines c.loop-q.invariant.refines;
  unions = all_more _ _ c.in_ok-split_by_edges.ensures.refines c.args.part.now.edges c.loop-q.q _
      (omega (arith, c.loop-q-test.true, c.states-q-end.ensures.states, c.states-q-end.ensures.automaton.each)) c.edges.ensures.moves
      c.loop-q.invariant.unions c.in_ok-split_by_edges.ensures.unions;
}

pub returns-clause-unions : goal.returns-clause-unions
returns-clause-unions c =
    let over : length c.args.part.now.edges ≤ c.loop-q.q = omega (arith, c.loop-q-test.false, c.states-q-end.ensures.states, c.states-q-end.ensures.automaton.each) in
    subst (λ (edges : List (List Move)). All (HaveUnions c.loop-q.splitter) edges) (take_all c.loop-q.q c.args.part.now.edges over) c.loop-q.invariant.unions
