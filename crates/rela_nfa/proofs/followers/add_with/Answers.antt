use Rattle.std.proofs.Common.{◌++◌, map, ◌∙◌, sym, ap}
use Rattle.std.specs.Option.{option_map}
use Rattle.std.proofs.lemmas.List.{take_all}
use Rattle.rela_nfa.specs.Meeting.{JointMove, labelled_both, moves_with, pair_of}
use Rattle.rela_nfa.specs.Stored.{move_of}
use Rattle.rela_nfa.proofs.InTurn.{mapped_more}
use Rattle.rela_nfa.proofs.followers.add_with.Goals as goal

pub loop-second-preserved : goal.loop-second-preserved
loop-second-preserved g c =
    let first = c.args.first.now in
    mapped_more (move_of g.L.LabelSet.letters) c.args.others.now c.loop-second.second-index c.second-item.result c.loop-second-test.true (sym c.second-item.is)
    (λ n. labelled_both (option_map g.L.LabelSet.letters first.label) n.label (pair_of first.to n.to)) (λ (j : JointMove). j.to) c.args.followers.now.items c.loop-second.followers.items _
    c.loop-second.invariant c.in_ok-add_together.ensures

pub returns : goal.returns
returns g c =
    let move = move_of g.L.LabelSet.letters in
    c.loop-second.invariant
    ∙ ap (λ l. c.args.followers.now.items ++ map (λ (j : JointMove). j.to) (moves_with (move c.args.first.now) (map move l)))
    (take_all c.loop-second.second-index c.args.others.now c.loop-second-test.false)
