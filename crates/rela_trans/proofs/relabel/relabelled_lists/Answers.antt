use Rattle.std.proofs.Common.{[], ◌∷◌, ◌++◌, map, ◌∙◌, sym, ap}
use Rattle.std.proofs.lemmas.List.{map_push, take_all}
use Rattle.rela_trans.specs.Relabelling.{relabelled_move}
use Rattle.rela_trans.specs.Stored.{move_of, moves_in}
use Rattle.rela_trans.proofs.OneMore.{twice_more}
use Rattle.rela_trans.proofs.relabel.relabelled_lists.Goals as goal

pub loop-moves-preserved : goal.loop-moves-preserved
loop-moves-preserved g c =
    let old = move_of g.L.LabelSet.letters in
    let move = move_of g.M.LabelSet.letters in
    let made = moves_in g.M.LabelSet.letters c.loop-moves.new.items in
    let relabelled = map (relabelled_move c.args.parents.now) in
    twice_more (λ v. map old v.items) relabelled c.args.lists.now c.loop-moves.moves-index c.moves-item.result _ _ c.loop-moves-test.true (sym c.moves-item.is) c.loop-moves.invariant
    (ap (moves_in g.M.LabelSet.letters) c.in_ok-push.ensures.items ∙ map_push (λ v. map move v.items) c.loop-moves.new.items c.in_ok-relabelled_moves.field-0
    ∙ ap (λ m. made ++ m ∷ []) (c.in_ok-relabelled_moves.ensures ∙ ap (λ l. relabelled (map old l)) c.deref.ensures.value))

pub returns : goal.returns
returns g c =
    c.loop-moves.invariant
    ∙ ap (λ l. map (map (relabelled_move c.args.parents.now)) (moves_in g.L.LabelSet.letters l)) (take_all c.loop-moves.moves-index c.args.lists.now c.loop-moves-test.false)
