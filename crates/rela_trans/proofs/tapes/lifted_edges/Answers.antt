use Rattle.std.proofs.Common.{[], ◌∷◌, ◌++◌, map, ◌∙◌, sym, ap}
use Rattle.std.proofs.lemmas.List.{map_push, take_all}
use Rattle.rela_nfa.specs.Stored.{move_of as edge_of}
use Rattle.rela_trans.specs.Stored.{move_of}
use Rattle.rela_trans.specs.Tapes.{lifted}
use Rattle.rela_trans.proofs.OneMore.{twice_more}
use Rattle.rela_trans.proofs.tapes.lifted_edges.Goals as goal

pub loop-edge-preserved : goal.loop-edge-preserved
loop-edge-preserved g c =
    let move = move_of g.L.LabelSet.letters in
    twice_more (edge_of g.L.LabelSet.letters) (lifted c.args.tape) c.args.edges.now c.loop-edge.edge-index c.edge-item.result _ _ c.loop-edge-test.true (sym c.edge-item.is) c.loop-edge.invariant
    (ap (map move) c.in_ok-push.ensures.items ∙ map_push move c.loop-edge.moves.items c.in_ok-lifted.field-0 ∙ ap (λ m. map move c.loop-edge.moves.items ++ m ∷ []) c.in_ok-lifted.ensures)

pub returns : goal.returns
returns g c =
    c.loop-edge.invariant
    ∙ ap (λ l. map (lifted c.args.tape) (map (edge_of g.L.LabelSet.letters) l)) (take_all c.loop-edge.edge-index c.args.edges.now c.loop-edge-test.false)
