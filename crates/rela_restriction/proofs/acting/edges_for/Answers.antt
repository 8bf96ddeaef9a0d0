use Rattle.std.proofs.Common.{Bool, List, [], ◌∷◌, ◌++◌, map, Option, ◌∙◌, sym, ap}
use Rattle.std.proofs.lemmas.List.{map_push, take_all}
use Rattle.rela_nfa.specs.Automaton.{Move as Taken}
use Rattle.rela_nfa.specs.Stored.{move_of as edge_of}
use Rattle.rela_trans.specs.Stored.{move_of}
use Rattle.rela_restriction.proofs.MappedMembers.{twice_more}
use Rattle.rela_restriction.specs.Automata.{act_edge}
use Rattle.rela_restriction.proofs.acting.edges_for.Goals as goal

pub loop-edge-preserved : goal.loop-edge-preserved
loop-edge-preserved g c =
    let edge = edge_of g.L.LabelSet.letters in
    let labelled : Option (List Bool) → Taken = λ l. record { label = l; to = c.edge-item.result.to } in
    twice_more (move_of g.L.LabelSet.letters) (act_edge c.args.letters) c.args.moves.now c.loop-edge.edge-index c.edge-item.result _ _ c.loop-edge-test.true (sym c.edge-item.is) c.loop-edge.invariant
    (ap (map edge) c.in_ok-push.ensures.items ∙ map_push edge c.loop-edge.edges.items _ ∙ ap (λ m. map edge c.loop-edge.edges.items ++ m ∷ []) (ap labelled c.in_ok-label.ensures))

pub returns : goal.returns
returns g c =
    c.loop-edge.invariant
    ∙ ap (λ l. map (act_edge c.args.letters) (map (move_of g.L.LabelSet.letters) l)) (take_all c.loop-edge.edge-index c.args.moves.now c.loop-edge-test.false)
