use Rattle.std.proofs.Common.{[], ◌∷◌, ◌++◌, map, ◌∙◌, sym, ap}
use Rattle.std.proofs.lemmas.List.{map_push, take_all}
use Rattle.rela_nfa.specs.Detours.{direct, redirected}
use Rattle.rela_nfa.specs.Stored.{move_of}
use Rattle.rela_nfa.proofs.InTurn.{mapped_twice_more}
use Rattle.rela_nfa.proofs.shortened.add_direct.Goals as goal

pub loop-edge-preserved : goal.loop-edge-preserved
loop-edge-preserved g c =
    let move = move_of g.L.LabelSet.letters in
    mapped_twice_more move (direct c.args.nfa.now c.args.ends.now) c.edges-edges.result.now c.loop-edge.edge-index c.edge-item.result _ _ _ c.loop-edge-test.true (sym c.edge-item.is)
    c.loop-edge.invariant
    (ap (map move) c.in_ok-push.ensures.items ∙ map_push move c.loop-edge.direct.items c.in_ok-redirected.field-0
    ∙ ap (λ m. map move c.loop-edge.direct.items ++ m ∷ []) (c.in_ok-redirected.ensures ∙ ap (redirected c.args.ends.now) c.pulled-edge.ensures.pulled))

pub returns : goal.returns
returns g c =
    let move = move_of g.L.LabelSet.letters in
    c.loop-edge.invariant
    ∙ ap (λ l. map move c.args.direct.now.items ++ map (direct c.args.nfa.now c.args.ends.now) l)
    (ap (map move) (take_all c.loop-edge.edge-index c.edges-edges.result.now c.loop-edge-test.false) ∙ c.edges-edges.ensures.moves)
