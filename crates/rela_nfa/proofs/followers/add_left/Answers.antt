use Rattle.std.proofs.Common.{◌++◌, map, ◌∙◌, sym, ap}
use Rattle.std.proofs.lemmas.List.{take_all}
use Rattle.rela_nfa.specs.Meeting.{JointMove, left_moves, pair_of, silent_one}
use Rattle.rela_nfa.specs.Stored.{move_of}
use Rattle.rela_nfa.proofs.InTurn.{mapped_more}
use Rattle.rela_nfa.proofs.followers.add_left.Goals as goal

pub loop-edge-preserved : goal.loop-edge-preserved
loop-edge-preserved g c =
    mapped_more (move_of g.L.LabelSet.letters) c.args.edges.now c.loop-edge.edge-index c.edge-item.result c.loop-edge-test.true (sym c.edge-item.is) (λ m. silent_one m.label (pair_of m.to c.args.right))
    (λ (j : JointMove). j.to) c.args.followers.now.items c.loop-edge.followers.items _ c.loop-edge.invariant c.in_ok-add_if_silent.ensures

pub returns : goal.returns
returns g c =
    c.loop-edge.invariant
    ∙ ap (λ l. c.args.followers.now.items ++ map (λ (j : JointMove). j.to) (left_moves c.args.right (map (move_of g.L.LabelSet.letters) l)))
    (take_all c.loop-edge.edge-index c.args.edges.now c.loop-edge-test.false)
