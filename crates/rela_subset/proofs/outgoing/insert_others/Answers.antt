use Rattle.std.proofs.Common.{Bor, List, [], ◌∷◌, ◌++◌, Some, map, take, sym, ap, ◌∙◌, subst}
use Rattle.std.proofs.lemmas.List.{map_more, take_all}
use Rattle.rela_nfa.specs.Automaton.{Move}
use Rattle.rela_nfa.specs.Runs.{StepIn}
use Rattle.rela_nfa.specs.StateSet.{Adds}
use Rattle.rela_nfa.specs.Stored.{move_of}
use Rattle.rela_nfa.specs.declared.edge.Edge.{Edge}
use Rattle.rela_subset.proofs.Sets.{adds_edge}
use Rattle.rela_subset.proofs.outgoing.insert_others.Goals as goal

pub loop-edge-preserved : goal.loop-edge-preserved
loop-edge-preserved g c =
    let move : Bor (Edge g.row.L.Denot) → Move = λ edge. move_of g.L.LabelSet.letters edge.now in
    let edges = c.args.edges.now in
    let i = c.loop-edge.edge-index in
    let edge = c.edge-item.result in
    let so_far = map move (take i edges) in
    record {
      count = c.in_ok-follow.ensures.count ∙ c.loop-edge.invariant.count;
      adds =
          subst (λ (l : List Move). Adds (StepIn l (Some c.args.letter)) c.args.visited.now.states c.follow.new.set.states)
          (sym (map_more move edges i edge c.loop-edge-test.true ∙ ap (λ e. so_far ++ move e ∷ []) (sym c.edge-item.is)))
          (adds_edge so_far (move edge) c.args.letter c.args.visited.now.states c.loop-edge.visited.states c.follow.new.set.states c.loop-edge.invariant.adds
          c.in_ok-follow.ensures.adds);
    }

pub returns-clause-adds : goal.returns-clause-adds
returns-clause-adds g c =
    subst (λ (l : List Move). Adds (StepIn l (Some c.args.letter)) c.args.visited.now.states c.loop-edge.visited.states)
    (ap (map (λ edge. move_of g.L.LabelSet.letters edge.now)) (take_all c.loop-edge.edge-index c.args.edges.now c.loop-edge-test.false)) c.loop-edge.invariant.adds
