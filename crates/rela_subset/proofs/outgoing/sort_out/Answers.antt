use Rattle.std.proofs.Common.{◌∷◌, ◌++◌, [], map, take, ap, ◌∙◌, sym, subst, append_assoc}
use Rattle.std.proofs.lemmas.List.{append-nil, map_more, take_all}
use Rattle.rela_nfa.specs.Stored.{move_of}
use Rattle.rela_subset.specs.Outgoing.{AreSortedOut}
use Rattle.rela_subset.proofs.outgoing.sort_out.Goals as goal

pub loop-edge-init : goal.loop-edge-init
loop-edge-init g c moves sorted =
    subst (λ ms. AreSortedOut ms c.args.singles.now.items (map (λ edge. move_of g.L.LabelSet.letters edge.now) c.args.others.now.items)) (sym (append-nil moves)) sorted

pub loop-edge-preserved : goal.loop-edge-preserved
loop-edge-preserved g c moves sorted =
    let move = move_of g.L.LabelSet.letters in
    let edges = c.args.edges.now in
    let i = c.loop-edge.edge-index in
    let edge = c.edge-item.result in
    let so_far = map move (take i edges) in
    subst (λ ms. AreSortedOut ms c.sort_out_one.new.singles.items (map (λ e. move e.now) c.sort_out_one.new.others.items))
    (append_assoc moves so_far (move edge ∷ []) ∙ ap (λ ms. moves ++ ms) (sym (map_more move edges i edge c.loop-edge-test.true ∙ ap (λ e. so_far ++ move e ∷ []) (sym c.edge-item.is))))
    (c.in_ok-sort_out_one.ensures (moves ++ so_far) (c.loop-edge.invariant moves sorted))

pub returns : goal.returns
returns g c moves sorted =
    subst (λ es. AreSortedOut (moves ++ map (move_of g.L.LabelSet.letters) es) c.loop-edge.singles.items (map (λ edge. move_of g.L.LabelSet.letters edge.now) c.loop-edge.others.items))
    (take_all c.loop-edge.edge-index c.args.edges.now c.loop-edge-test.false) (c.loop-edge.invariant moves sorted)
