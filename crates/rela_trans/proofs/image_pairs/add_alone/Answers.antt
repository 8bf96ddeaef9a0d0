use Rattle.std.proofs.Common.{Bool, List, ◌++◌, map, ◌∙◌, sym, ap}
use Rattle.std.proofs.lemmas.List.{take_all}
use Rattle.rela_nfa.specs.Meeting.{pair_of}
use Rattle.rela_trans.specs.Composition.{made, second_alone, second_moves}
use Rattle.rela_trans.specs.Stored.{move_of}
use Rattle.rela_trans.specs.declared.joint.JointMove.{JointMove}
use Rattle.rela_trans.proofs.OneMore.{mapped_more}
use Rattle.rela_trans.proofs.image_pairs.add_alone.Goals as goal

pub loop-second-preserved : goal.loop-second-preserved
loop-second-preserved g c =
    let to = λ (j : JointMove (List Bool)). j.to in
    mapped_more (move_of g.L.LabelSet.letters) c.args.moves.now c.loop-second.second-index c.second-item.result c.loop-second-test.true (sym c.second-item.is)
    (λ n. made (second_alone n.kind) (pair_of c.args.left n.to)) to c.args.followers.now.items c.loop-second.followers.items _ c.loop-second.invariant
    (c.in_ok-add_made.ensures ∙ ap (λ k. c.loop-second.followers.items ++ map to (made k (pair_of c.args.left c.second-item.result.to))) c.in_ok-alone.ensures)

pub returns : goal.returns
returns g c =
    c.loop-second.invariant
    ∙ ap (λ l. c.args.followers.now.items ++ map (λ (j : JointMove (List Bool)). j.to) (second_moves c.args.left (map (move_of g.L.LabelSet.letters) l)))
    (take_all c.loop-second.second-index c.args.moves.now c.loop-second-test.false)
