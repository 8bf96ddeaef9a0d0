use Rattle.std.proofs.Common.{◌++◌, map, ◌∙◌, sym, ap}
use Rattle.std.proofs.lemmas.List.{take_all}
use Rattle.rela_nfa.specs.Meeting.{pair_of}
use Rattle.rela_trans.specs.Composition.{both_by_letter, joint_of, made, moves_with}
use Rattle.rela_trans.specs.Stored.{kind_of, move_of}
use Rattle.rela_trans.proofs.OneMore.{flat_more}
use Rattle.rela_trans.proofs.joint.add_with.Goals as goal

pub loop-second-preserved : goal.loop-second-preserved
loop-second-preserved g c =
    let letters = g.L.LabelSet.letters in
    let joint = joint_of letters in
    let first = c.args.first.now in
    flat_more (move_of letters) (λ n. made (both_by_letter (kind_of letters first.kind) n.kind) (pair_of first.to n.to)) c.args.others.now c.loop-second.second-index c.second-item.result
    (map joint c.args.joint.now.items) (map joint c.loop-second.joint.items) _ c.loop-second-test.true (sym c.second-item.is) c.loop-second.invariant
    (c.in_ok-add_made.ensures ∙ ap (λ k. map joint c.loop-second.joint.items ++ made k (pair_of first.to c.second-item.result.to)) c.in_ok-both.ensures)

pub returns : goal.returns
returns g c =
    let move = move_of g.L.LabelSet.letters in
    c.loop-second.invariant
    ∙ ap (λ l. map (joint_of g.L.LabelSet.letters) c.args.joint.now.items ++ moves_with (move c.args.first.now) (map move l))
    (take_all c.loop-second.second-index c.args.others.now c.loop-second-test.false)
