use Rattle.std.proofs.Common.{Bool, List, ◌++◌, map, ◌∙◌, ap}
use Rattle.std.proofs.lemmas.List.{take_all}
use Rattle.rela_trans.specs.Composition.{joint_of}
use Rattle.rela_trans.specs.declared.joint.JointMove.{JointMove}
use Rattle.rela_trans.proofs.compose.ComposingSuccessors.add_next.Goals as goal

pub returns-clause-next : goal.returns-clause-next
returns-clause-next g c =
    let letters = g.L.LabelSet.letters in
    let old = c.args.followers.now.items in
    let to = λ (j : JointMove (List Bool)). j.to in
    c.loop-made.invariant
    ∙ ap (λ l. old ++ map to (map (joint_of letters) l)) (take_all c.loop-made.made-index c.deref-made-items.result.now c.loop-made-test.false ∙ c.deref-made-items.ensures.value)
    ∙ ap (λ l. old ++ map to l) c.in_ok-joint.ensures.moves

pub returns-clause-pairs : goal.returns-clause-pairs
returns-clause-pairs g c = λ k d below. let lead = c.in_ok-joint.ensures.lead k d below in (c.requires.0, lead.0, lead.1)
