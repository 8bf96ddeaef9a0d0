use Rattle.std.proofs.Common.{Bool, List, ◌++◌, map, ◌∙◌, sym, ap}
use Rattle.std.specs.Option.{option_map}
use Rattle.std.proofs.lemmas.List.{take_all}
use Rattle.rela_nfa.specs.Meeting.{pair_of}
use Rattle.rela_nfa.specs.Stored.{move_of as edge_of}
use Rattle.rela_trans.specs.Composition.{made}
use Rattle.rela_trans.specs.ImageMoves.{read_by, read_moves}
use Rattle.rela_trans.specs.Stored.{move_of}
use Rattle.rela_trans.specs.declared.joint.JointMove.{JointMove}
use Rattle.rela_trans.proofs.OneMore.{mapped_more}
use Rattle.rela_trans.proofs.image_pairs.add_read.Goals as goal

pub loop-second-preserved : goal.loop-second-preserved
loop-second-preserved g c =
    let edge = c.args.edge.now in
    mapped_more (move_of g.L.LabelSet.letters) c.args.moves.now c.loop-second.second-index c.second-item.result c.loop-second-test.true (sym c.second-item.is)
    (λ n. made (read_by (option_map g.L.LabelSet.letters edge.label) n.kind) (pair_of edge.to n.to)) (λ (j : JointMove (List Bool)). j.to) c.args.followers.now.items
    c.loop-second.followers.items _ c.loop-second.invariant c.in_ok-add_if_read.ensures

pub returns : goal.returns
returns g c =
    c.loop-second.invariant
    ∙ ap (λ l. c.args.followers.now.items ++ map (λ (j : JointMove (List Bool)). j.to) (read_moves (edge_of g.L.LabelSet.letters c.args.edge.now) (map (move_of g.L.LabelSet.letters) l)))
    (take_all c.loop-second.second-index c.args.moves.now c.loop-second-test.false)
