use Rattle.std.proofs.Common.{List, ◌++◌, map, ◌∙◌, sym, ap}
use Rattle.std.specs.List.{flat_map}
use Rattle.std.proofs.lemmas.List.{take_all}
use Rattle.rela_nfa.specs.Automaton.{Move, moves_of}
use Rattle.rela_nfa.specs.Meeting.{JointMove, left_moves, right_moves, moves_with}
use Rattle.rela_nfa.specs.Stored.{move_of}
use Rattle.rela_nfa.proofs.InTurn.{mapped_more, followers_made}
use Rattle.rela_nfa.proofs.Numbers.{next_lead}
use Rattle.rela_nfa.proofs.followers.add_followers.Goals as goal

pub loop-edge-preserved : goal.loop-edge-preserved
loop-edge-preserved g c =
    let move = move_of g.L.LabelSet.letters in
    let to = λ (j : JointMove). j.to in
    let lefts = moves_of c.args.first.now c.args.pair.left in
    let rights = moves_of c.args.second.now c.args.pair.right in
    mapped_more move c.edges-left.result.now c.loop-edge.edge-index c.edge-item.result c.loop-edge-test.true (sym c.edge-item.is) (λ m. moves_with m rights) to
    ((c.args.followers.now.items ++ map to (left_moves c.args.pair.right lefts)) ++ map to (right_moves c.args.pair.left rights)) c.loop-edge.followers.items _ c.loop-edge.invariant
    (c.in_ok-add_with.ensures ∙ ap (λ l. c.loop-edge.followers.items ++ map to (moves_with (move c.edge-item.result) l)) c.edges-right.ensures.moves)

pub returns-clause-next : goal.returns-clause-next
returns-clause-next g c =
    let a = c.args.first.now in
    let b = c.args.second.now in
    let x = c.args.pair in
    let to = λ (j : JointMove). j.to in
    c.loop-edge.invariant
    ∙ ap (λ (l : List Move). ((c.args.followers.now.items ++ map to (left_moves x.right (moves_of a x.left))) ++ map to (right_moves x.left (moves_of b x.right)))
    ++ map to (flat_map (λ m. moves_with m (moves_of b x.right)) l))
    (ap (λ l. map (move_of g.L.LabelSet.letters) l) (take_all c.loop-edge.edge-index c.edges-left.result.now c.loop-edge-test.false) ∙ c.edges-left.ensures.moves)
    ∙ followers_made a b x c.args.followers.now.items

pub returns-clause-lead : goal.returns-clause-lead
returns-clause-lead g c =
    next_lead c.args.first.now c.args.second.now c.edges-left.ensures.automaton c.edges-right.ensures.automaton c.args.pair c.requires.left c.requires.right
