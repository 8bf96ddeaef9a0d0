use Rattle.std.proofs.Common.{[], ◌∷◌, ◌++◌, map, ◌∙◌, sym, ap}
use Rattle.std.proofs.lemmas.List.{map_push, take_all}
use Rattle.rela_trans.specs.Relabelling.{relabelled_move}
use Rattle.rela_trans.specs.Stored.{move_of}
use Rattle.rela_trans.proofs.OneMore.{twice_more}
use Rattle.rela_trans.proofs.relabel.relabelled_moves.Goals as goal

pub loop-edge-preserved : goal.loop-edge-preserved
loop-edge-preserved g c =
    let move = move_of g.M.LabelSet.letters in
    let made = map move c.loop-edge.new.items in
    twice_more (move_of g.L.LabelSet.letters) (relabelled_move c.args.parents.now) c.args.moves.now c.loop-edge.edge-index c.edge-item.result _ _ c.loop-edge-test.true (sym c.edge-item.is)
    c.loop-edge.invariant
    (ap (map move) c.in_ok-push.ensures.items ∙ map_push move c.loop-edge.new.items _ ∙ ap (λ k. made ++ record { kind = k; to = c.edge-item.result.to } ∷ []) c.in_ok-kind.ensures)

pub returns : goal.returns
returns g c =
    c.loop-edge.invariant
    ∙ ap (λ l. map (relabelled_move c.args.parents.now) (map (move_of g.L.LabelSet.letters) l)) (take_all c.loop-edge.edge-index c.args.moves.now c.loop-edge-test.false)
