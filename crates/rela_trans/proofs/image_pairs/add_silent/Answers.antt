use Rattle.std.proofs.Common.{Bool, List, ◌++◌, map, ◌∙◌, sym, ap}
use Rattle.std.proofs.lemmas.List.{take_all}
use Rattle.rela_nfa.specs.Meeting.{pair_of}
use Rattle.rela_nfa.specs.Stored.{move_of as edge_of}
use Rattle.rela_trans.specs.Composition.{made}
use Rattle.rela_trans.specs.ImageMoves.{source_alone, source_moves}
use Rattle.rela_trans.specs.declared.joint.JointMove.{JointMove}
use Rattle.rela_trans.proofs.OneMore.{mapped_more}
use Rattle.rela_trans.proofs.image_pairs.add_silent.Goals as goal

pub loop-edge-preserved : goal.loop-edge-preserved
loop-edge-preserved g c =
    mapped_more (edge_of g.L.LabelSet.letters) c.args.edges.now c.loop-edge.edge-index c.edge-item.result c.loop-edge-test.true (sym c.edge-item.is)
    (λ m. made (source_alone m.label) (pair_of m.to c.args.right)) (λ (j : JointMove (List Bool)). j.to) c.args.followers.now.items c.loop-edge.followers.items _ c.loop-edge.invariant
    c.in_ok-add_if_silent.ensures

pub returns : goal.returns
returns g c =
    c.loop-edge.invariant
    ∙ ap (λ l. c.args.followers.now.items ++ map (λ (j : JointMove (List Bool)). j.to) (source_moves c.args.right (map (edge_of g.L.LabelSet.letters) l)))
    (take_all c.loop-edge.edge-index c.args.edges.now c.loop-edge-test.false)
