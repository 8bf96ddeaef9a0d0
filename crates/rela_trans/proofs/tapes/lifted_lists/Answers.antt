use Rattle.std.proofs.Common.{map, ap, sym, ◌∙◌, ◌++◌, [], ◌∷◌, arith}
use Rattle.std.specs.List.{range_with_len}
use Rattle.std.proofs.lemmas.List.{map_push}
use Rattle.std.proofs.lemmas.List.FromFn.{map-range_with_len_more}
use Rattle.rela_trans.specs.Stored.{move_of, moves_in}
use Rattle.rela_trans.specs.Tapes.{lifted, lifted_at}
use Rattle.rela_trans.proofs.tapes.lifted_lists.Goals as goal

pub loop-q-preserved : goal.loop-q-preserved
loop-q-preserved g c =
    let f = lifted_at c.args.tape c.args.a.now in
    ap (moves_in g.L.LabelSet.letters) c.in_ok-push.ensures.items ∙ map_push (λ v. map (move_of g.L.LabelSet.letters) v.items) c.loop-q.moves.items _
    ∙ ap (λ l. l ++ map (move_of g.L.LabelSet.letters) c.in_ok-lifted_edges.field-0.items ∷ []) c.loop-q.invariant
    ∙ ap (λ m. map f (range_with_len 0 c.loop-q.q) ++ m ∷ []) (c.in_ok-lifted_edges.ensures ∙ ap (map (lifted c.args.tape)) c.edges.ensures.moves)
    ∙ sym (map-range_with_len_more f 0 c.loop-q.q c.loop-q.q (omega arith))
