use Rattle.std.proofs.Common.{◌++◌, map, ◌∙◌, sym, ap}
use Rattle.std.proofs.lemmas.List.{take_all}
use Rattle.rela_nfa.specs.Meeting.{pair_of}
use Rattle.rela_trans.specs.Composition.{first_alone, first_moves, joint_of, made}
use Rattle.rela_trans.specs.Stored.{move_of}
use Rattle.rela_trans.proofs.OneMore.{flat_more}
use Rattle.rela_trans.proofs.joint.add_first.Goals as goal

pub loop-first-preserved : goal.loop-first-preserved
loop-first-preserved g c =
    let joint = joint_of g.L.LabelSet.letters in
    flat_more (move_of g.L.LabelSet.letters) (λ m. made (first_alone m.kind) (pair_of m.to c.args.right)) c.args.moves.now c.loop-first.first-index c.first-item.result
    (map joint c.args.joint.now.items) (map joint c.loop-first.joint.items) _ c.loop-first-test.true (sym c.first-item.is) c.loop-first.invariant
    (c.in_ok-add_made.ensures ∙ ap (λ k. map joint c.loop-first.joint.items ++ made k (pair_of c.first-item.result.to c.args.right)) c.in_ok-alone.ensures)

pub returns : goal.returns
returns g c =
    c.loop-first.invariant
    ∙ ap (λ l. map (joint_of g.L.LabelSet.letters) c.args.joint.now.items ++ first_moves c.args.right (map (move_of g.L.LabelSet.letters) l))
    (take_all c.loop-first.first-index c.args.moves.now c.loop-first-test.false)
