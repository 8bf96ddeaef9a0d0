use Rattle.std.proofs.Common.{◌++◌, map, ◌∙◌, sym, ap}
use Rattle.std.proofs.lemmas.List.{take_all}
use Rattle.rela_nfa.specs.Meeting.{pair_of}
use Rattle.rela_trans.specs.Composition.{second_alone, second_moves, joint_of, made}
use Rattle.rela_trans.specs.Stored.{move_of}
use Rattle.rela_trans.proofs.OneMore.{flat_more}
use Rattle.rela_trans.proofs.joint.add_second.Goals as goal

pub loop-second-preserved : goal.loop-second-preserved
loop-second-preserved g c =
    let joint = joint_of g.L.LabelSet.letters in
    flat_more (move_of g.L.LabelSet.letters) (λ m. made (second_alone m.kind) (pair_of c.args.left m.to)) c.args.moves.now c.loop-second.second-index c.second-item.result
    (map joint c.args.joint.now.items) (map joint c.loop-second.joint.items) _ c.loop-second-test.true (sym c.second-item.is) c.loop-second.invariant
    (c.in_ok-add_made.ensures ∙ ap (λ k. map joint c.loop-second.joint.items ++ made k (pair_of c.args.left c.second-item.result.to)) c.in_ok-alone.ensures)

pub returns : goal.returns
returns g c =
    c.loop-second.invariant
    ∙ ap (λ l. map (joint_of g.L.LabelSet.letters) c.args.joint.now.items ++ second_moves c.args.left (map (move_of g.L.LabelSet.letters) l))
    (take_all c.loop-second.second-index c.args.moves.now c.loop-second-test.false)
