use Rattle.std.proofs.Common.{map, ◌∙◌, ap, get_or}
use Rattle.std.proofs.lemmas.List.{get_or_default, map_push, take_all}
use Rattle.rela_trans.specs.Construction.{silent}
use Rattle.rela_trans.specs.Stored.{move_of}
use Rattle.rela_trans.proofs.OneMore.{once_more}
use Rattle.rela_trans.proofs.moving.silent_moves.Goals as goal

pub loop-to-preserved : goal.loop-to-preserved
loop-to-preserved g c =
    let move = move_of g.L.LabelSet.letters in
    let ends = c.args.ends.now in
    let i = c.loop-to.to-index in
    once_more silent ends i (get_or ends i 0) _ _ c.loop-to-test.true (get_or_default ends i (get_or ends i 0) 0 c.loop-to-test.true) c.loop-to.invariant
    (ap (map move) c.in_ok-push.ensures.items ∙ map_push move c.loop-to.moves.items _)

pub returns : goal.returns
returns g c = c.loop-to.invariant ∙ ap (map silent) (take_all c.loop-to.to-index c.args.ends.now c.loop-to-test.false)
