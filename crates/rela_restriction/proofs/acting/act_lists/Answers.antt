use Rattle.std.proofs.Common.{map, ap, sym, ◌∙◌, ◌++◌, [], ◌∷◌, arith}
use Rattle.std.specs.List.{range_with_len}
use Rattle.std.proofs.lemmas.List.{map_push}
use Rattle.std.proofs.lemmas.List.FromFn.{map-range_with_len_more}
use Rattle.rela_nfa.specs.Stored.{move_of as edge_of, moves_in as edges_in}
use Rattle.rela_trans.specs.Stored.{move_of}
use Rattle.rela_restriction.specs.Automata.{act_edge, act_edges}
use Rattle.rela_restriction.proofs.acting.act_lists.Goals as goal

pub loop-q-preserved : goal.loop-q-preserved
loop-q-preserved g c =
    let f = act_edges c.args.transducer.now in
    ap (edges_in g.L.LabelSet.letters) c.in_ok-push.ensures.items ∙ map_push (λ v. map (edge_of g.L.LabelSet.letters) v.items) c.loop-q.lists.items _
    ∙ ap (λ l. l ++ map (edge_of g.L.LabelSet.letters) c.in_ok-edges_for.field-0.items ∷ []) c.loop-q.invariant
    ∙ ap (λ m. map f (range_with_len 0 c.loop-q.q) ++ m ∷ [])
    (c.in_ok-edges_for.ensures ∙ ap (λ n. map (act_edge n) (map (move_of g.L.LabelSet.letters) c.moves.result.now)) c.letters-letters.ensures.letters
    ∙ ap (map (act_edge c.args.transducer.now.letters)) c.moves.ensures.moves)
    ∙ sym (map-range_with_len_more f 0 c.loop-q.q c.loop-q.q (omega arith))
