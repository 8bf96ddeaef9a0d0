use Rattle.std.proofs.Common.{◌≡◌, ◌<◌, List, [], ◌∷◌, ◌++◌, length, map, get_or, ◌∙◌, sym, ap, subst, arith}
use Rattle.std.specs.List.{range_with_len}
use Rattle.std.proofs.lemmas.List.{map_push}
use Rattle.std.proofs.lemmas.List.FromFn.{map-range_with_len_more}
use Rattle.rela_pairs.specs.declared.pair.Pair.{Pair}
use Rattle.rela_nfa.specs.Automaton.{Move as Edge}
use Rattle.rela_nfa.specs.Meeting.{pair_of}
use Rattle.rela_nfa.specs.Stored.{move_of as edge_of}
use Rattle.rela_trans.specs.Composition.{joint_moves, numbered, product_moves_at}
use Rattle.rela_trans.specs.ImageMoves.{source_of}
use Rattle.rela_trans.specs.Images.{written_edges}
use Rattle.rela_trans.proofs.NumberedMoves.{product_moves_of}
use Rattle.rela_trans.proofs.image_edges.image_edges.Goals as goal

pub loop-number-preserved : goal.loop-number-preserved
loop-number-preserved g c =
    let a = source_of c.args.source.now in
    let t = c.args.transducer.now in
    let e = c.args.explored.now in
    let n = c.loop-number.number in
    let none = pair_of 0 0 in
    let below : n < length e.pairs = subst (λ (l : List Pair). n < length l) c.pairs-pairs.ensures c.loop-number-test.true in
    let so_far = map (product_moves_at a t e) (range_with_len 0 n) in
    let added = map (edge_of g.L.LabelSet.letters) c.add_edges_from.new.edges.items in
    let one : added ≡ written_edges (product_moves_at a t e n) =
    c.in_ok-add_edges_from.ensures ∙ ap (λ l. written_edges (numbered (joint_moves a t (get_or l n none)) c.targets-targets.result.now)) c.pairs-pairs.ensures
    ∙ ap (λ l. written_edges (numbered (joint_moves a t (get_or e.pairs n none)) l)) c.targets-targets.ensures ∙ ap written_edges (sym (product_moves_of a t e n below none)) in (
      c.in_ok-push.ensures.taken,
      c.in_ok-push.ensures.list ∙ ap (λ (l : List (List Edge)). l ++ added ∷ []) c.loop-number.invariant.1 ∙ ap (λ m. map written_edges so_far ++ m ∷ []) one
          ∙ sym (map_push written_edges so_far (product_moves_at a t e n)) ∙ ap (map written_edges) (sym (map-range_with_len_more (product_moves_at a t e) 0 n n (omega arith))),
    )

pub returns : goal.returns
returns g c =
    let e = c.args.explored.now in
    let count : length c.pairs-pairs.result.now ≡ length e.pairs = ap (λ (l : List Pair). length l) c.pairs-pairs.ensures in
    let done : c.loop-number.number ≡ length e.pairs = omega (arith, count) in
    c.loop-number.invariant.1 ∙ ap (λ n. map written_edges (map (product_moves_at (source_of c.args.source.now) c.args.transducer.now e) (range_with_len 0 n))) done
