use Rattle.std.proofs.Common.{◌∷◌, [], ◌++◌, List, get_or, map, take, ap, sym, ◌∙◌, subst}
use Rattle.std.proofs.lemmas.List.{map_more}
use Rattle.rela_nfa.specs.Automaton.{Move}
use Rattle.rela_nfa.specs.Stored.{move_of}
use Rattle.rela_reduce.proofs.Labelling.{AreArrows, arrows_push}
use Rattle.rela_reduce.proofs.numbered.arrows_for.Goals as goal

pub loop-edge-preserved : goal.loop-edge-preserved
loop-edge-preserved g c =
    let move = move_of g.L.LabelSet.letters in
    let edges = c.args.edges.now in
    let i = c.loop-edge.edge-index in
    let first = c.args.labels.now in
    let labels = c.arrow_for.new.labels in
    let more : AreArrows first labels (map move (take i edges) ++ move (get_or edges i c.edge-item.result) ∷ []) (c.loop-edge.arrows.items ++ c.in_ok-arrow.arrow ∷ []) =
    arrows_push first c.loop-edge.labels labels (map move (take i edges)) c.loop-edge.arrows.items c.in_ok-arrow.arrow (move (get_or edges i c.edge-item.result)) c.loop-edge.invariant
    c.in_ok-arrow.ensures.grown c.in_ok-arrow.ensures.known (c.in_ok-arrow.ensures.edge ∙ ap move c.edge-item.is) in
    subst (λ (ms : List Move). AreArrows first labels ms c.push.new.self.items) (sym (map_more move edges i c.edge-item.result c.loop-edge-test.true))
    (subst (AreArrows first labels (map move (take i edges) ++ move (get_or edges i c.edge-item.result) ∷ [])) (sym c.in_ok-push.ensures.items) more)
