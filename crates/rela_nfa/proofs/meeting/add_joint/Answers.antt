use Rattle.std.proofs.Common.{List, [], map, ◌∙◌, sym, ap}
use Rattle.std.specs.List.{flat_map}
use Rattle.std.proofs.lemmas.List.{take_all}
use Rattle.rela_nfa.specs.Automaton.{Move, moves_of}
use Rattle.rela_nfa.specs.Directing.{extended, silent_labels, labels_with}
use Rattle.rela_nfa.specs.Stored.{move_of}
use Rattle.rela_nfa.proofs.InTurn.{labels_more, joint_made}
use Rattle.rela_nfa.proofs.meeting.add_joint.Goals as goal

pub loop-edge-preserved : goal.loop-edge-preserved
loop-edge-preserved g c =
    let move = move_of g.L.LabelSet.letters in
    let rights = moves_of c.args.second.now c.args.pair.right in
    let targets = c.args.targets.now in
    labels_more move c.edges-left.result.now c.loop-edge.edge-index c.edge-item.result c.loop-edge-test.true (sym c.edge-item.is) (λ m. labels_with m.label rights)
    (extended (extended [] (silent_labels (moves_of c.args.first.now c.args.pair.left)) targets) (silent_labels rights) targets) (map move c.loop-edge.edges.items) _ targets c.loop-edge.invariant
    (c.in_ok-add_with.ensures
    ∙ ap (λ l. extended (map move c.loop-edge.edges.items) (labels_with (move c.edge-item.result).label l) targets) c.edges-right.ensures.moves)

pub returns : goal.returns
returns g c =
    let a = c.args.first.now in
    let b = c.args.second.now in
    let x = c.args.pair in
    let targets = c.args.targets.now in
    c.loop-edge.invariant
    ∙ ap (λ (l : List Move). extended (extended (extended [] (silent_labels (moves_of a x.left)) targets) (silent_labels (moves_of b x.right)) targets)
    (flat_map (λ m. labels_with m.label (moves_of b x.right)) l) targets)
    (ap (λ l. map (move_of g.L.LabelSet.letters) l) (take_all c.loop-edge.edge-index c.edges-left.result.now c.loop-edge-test.false) ∙ c.edges-left.ensures.moves)
    ∙ joint_made a b x targets
