use Rattle.std.proofs.Common.{◌++◌, map, take, sym, ap, ◌∙◌, append_assoc}
use Rattle.std.proofs.lemmas.List.{take_all}
use Rattle.rela_nfa.specs.Stored.{move_of}
use Rattle.rela_subset.specs.Silent.{if_silent, silents}
use Rattle.rela_subset.proofs.Silents.{silents_more}
use Rattle.rela_subset.proofs.silent.push_silent.Goals as goal

pub loop-edge-preserved : goal.loop-edge-preserved
loop-edge-preserved g c =
    let move = move_of g.L.LabelSet.letters in
    let first = map move c.args.edges.now.items in
    let so_far = silents (map move (take c.loop-edge.edge-index c.args.others.now)) in
    let edge = move c.edge-item.result in
    c.in_ok-push_if_silent.ensures ∙ ap (λ l. l ++ if_silent edge.label edge.to) c.loop-edge.invariant
    ∙ append_assoc first so_far (if_silent edge.label edge.to)
    ∙ ap (λ l. first ++ l) (sym (silents_more move c.args.others.now c.loop-edge.edge-index c.edge-item.result c.loop-edge-test.true c.edge-item.is))

pub returns : goal.returns
returns g c =
    let move = move_of g.L.LabelSet.letters in
    c.loop-edge.invariant
    ∙ ap (λ l. map move c.args.edges.now.items ++ silents (map move l)) (take_all c.loop-edge.edge-index c.args.others.now c.loop-edge-test.false)
