use Rattle.std.proofs.Common.{[], ◌∷◌, ◌++◌, map, ◌∙◌, sym, ap}
use Rattle.std.proofs.lemmas.List.{map_push, take_all}
use Rattle.rela_trans.specs.Construction.{turned_move}
use Rattle.rela_trans.specs.Stored.{move_of, moves_in}
use Rattle.rela_trans.proofs.OneMore.{twice_more}
use Rattle.rela_trans.proofs.inverse.turned_lists.Goals as goal

pub loop-moves-preserved : goal.loop-moves-preserved
loop-moves-preserved g c =
    let move = move_of g.L.LabelSet.letters in
    let made = moves_in g.L.LabelSet.letters c.loop-moves.new.items in
    twice_more (λ v. map move v.items) (map turned_move) c.args.lists.now c.loop-moves.moves-index c.moves-item.result _ _ c.loop-moves-test.true (sym c.moves-item.is) c.loop-moves.invariant
    (ap (moves_in g.L.LabelSet.letters) c.in_ok-push.ensures.items ∙ map_push (λ v. map move v.items) c.loop-moves.new.items c.in_ok-turned_moves.field-0
    ∙ ap (λ m. made ++ m ∷ []) (c.in_ok-turned_moves.ensures ∙ ap (λ l. map turned_move (map move l)) c.deref.ensures.value))

pub returns : goal.returns
returns g c =
    c.loop-moves.invariant
    ∙ ap (λ l. map (map turned_move) (moves_in g.L.LabelSet.letters l)) (take_all c.loop-moves.moves-index c.args.lists.now c.loop-moves-test.false)
