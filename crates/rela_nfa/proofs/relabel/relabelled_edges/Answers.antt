use Rattle.std.proofs.Common.{[], ◌∷◌, ◌++◌, map, ◌∙◌, sym, ap}
use Rattle.std.proofs.lemmas.List.{map_push, take_all}
use Rattle.rela_nfa.specs.Relabelling.{relabelled_move}
use Rattle.rela_nfa.specs.Stored.{move_of}
use Rattle.rela_nfa.proofs.InTurn.{mapped_twice_more}
use Rattle.rela_nfa.proofs.relabel.relabelled_edges.Goals as goal

pub loop-edge-preserved : goal.loop-edge-preserved
loop-edge-preserved g c =
    let move = move_of g.M.LabelSet.letters in
    mapped_twice_more (move_of g.L.LabelSet.letters) (relabelled_move c.args.parents.now) c.args.edges.now c.loop-edge.edge-index c.edge-item.result [] _ _ c.loop-edge-test.true
    (sym c.edge-item.is) c.loop-edge.invariant
    (ap (map move) c.in_ok-push.ensures.items ∙ map_push move c.loop-edge.new.items c.in_ok-relabelled_edge.field-0 ∙ ap (λ m. map move c.loop-edge.new.items ++ m ∷ []) c.in_ok-relabelled_edge.ensures)

pub returns : goal.returns
returns g c =
    c.loop-edge.invariant
    ∙ ap (λ l. map (relabelled_move c.args.parents.now) (map (move_of g.L.LabelSet.letters) l)) (take_all c.loop-edge.edge-index c.args.edges.now c.loop-edge-test.false)
