use Rattle.std.proofs.Common.{false, if◌then◌else◌, get_or, map, ap, sym, ◌∙◌, ◌++◌, [], ◌∷◌, arith}
use Rattle.std.specs.List.{range_with_len}
use Rattle.std.proofs.lemmas.List.{map_push}
use Rattle.std.proofs.lemmas.List.FromFn.{map-range_with_len_more}
use Rattle.rela_trans.specs.Reached.{kept_moves}
use Rattle.rela_trans.specs.Relabelling.{relabelled_move}
use Rattle.rela_trans.specs.Stored.{move_of, moves_in}
use Rattle.rela_trans.proofs.transducer.Transducer.kept_lists.Goals as goal

pub loop-q-preserved : goal.loop-q-preserved
loop-q-preserved g c =
    let parents = c.args.parents.now in
    let kept = c.args.kept.now in
    let q = c.loop-q.q in
    let f = kept_moves parents kept c.args.self.now in
    ap (moves_in g.M.LabelSet.letters) c.in_ok-push.ensures.items ∙ map_push (λ v. map (move_of g.M.LabelSet.letters) v.items) c.loop-q.new.items _
    ∙ ap (λ l. l ++ map (move_of g.M.LabelSet.letters) c.in_ok-moves_if.field-0.items ∷ []) c.loop-q.invariant
    ∙ ap (λ m. map f (range_with_len 0 q) ++ m ∷ [])
    (c.in_ok-moves_if.ensures ∙ ap (λ l. if get_or kept q false then map (relabelled_move parents) l else []) c.moves.ensures.moves)
    ∙ sym (map-range_with_len_more f 0 q q (omega arith))
