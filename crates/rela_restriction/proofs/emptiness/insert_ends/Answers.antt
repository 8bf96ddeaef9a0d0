use Rattle.std.proofs.Common.{List, [], ◌∷◌, ◌++◌, map, take, sym, ap, ◌∙◌, subst}
use Rattle.std.proofs.lemmas.List.{map_more, take_all}
use Rattle.rela_nfa.specs.Automaton.{Move}
use Rattle.rela_nfa.specs.Stored.{move_of}
use Rattle.rela_restriction.specs.Emptiness.{Finds, OpensTo}
use Rattle.rela_restriction.proofs.Searching.{edge_more, no_edges}
use Rattle.rela_restriction.proofs.emptiness.insert_ends.Goals as goal

pub loop-edge-init : goal.loop-edge-init
loop-edge-init g c = record {
  finds = no_edges (g.L.LabelSet.letters c.args.over.now) c.args.found.now c.args.waiting.now.items;
  below = c.requires.waiting;
}

pub loop-edge-preserved : goal.loop-edge-preserved
loop-edge-preserved g c =
    let move = move_of g.L.LabelSet.letters in
    let over = g.L.LabelSet.letters c.args.over.now in
    let edges = c.args.edges.now in
    let i = c.loop-edge.edge-index in
    let edge = c.edge-item.result in
    let so_far = map move (take i edges) in
    let after = c.insert_end.new in
    record {
      finds =
          subst (λ (l : List Move). Finds (OpensTo over l) c.args.found.now c.args.waiting.now.items after.found after.waiting.items)
          (sym (map_more move edges i edge c.loop-edge-test.true ∙ ap (λ e. so_far ++ move e ∷ []) (sym c.edge-item.is)))
          (edge_more over so_far (move edge) c.args.found.now c.args.waiting.now.items c.loop-edge.found c.loop-edge.waiting.items after.found after.waiting.items
          c.loop-edge.invariant.finds c.in_ok-insert_end.ensures.finds);
      below = c.in_ok-insert_end.ensures.waiting;
    }

pub returns-clause-finds : goal.returns-clause-finds
returns-clause-finds g c =
    subst
    (λ (l : List Move). Finds (OpensTo (g.L.LabelSet.letters c.args.over.now) l) c.args.found.now c.args.waiting.now.items c.loop-edge.found c.loop-edge.waiting.items)
    (ap (map (move_of g.L.LabelSet.letters)) (take_all c.loop-edge.edge-index c.args.edges.now c.loop-edge-test.false)) c.loop-edge.invariant.finds
