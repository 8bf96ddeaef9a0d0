use Rattle.std.proofs.Common.{◌≡◌, ◌<◌, List, [], ◌∷◌, ◌++◌, length, map, get_or, ◌∙◌, sym, ap, subst, arith}
use Rattle.std.specs.List.{range_with_len}
use Rattle.std.proofs.lemmas.List.FromFn.{map-range_with_len_more}
use Rattle.rela_pairs.specs.declared.pair.Pair.{Pair}
use Rattle.rela_nfa.specs.Automaton.{Move}
use Rattle.rela_nfa.specs.Meeting.{joint_moves, numbered, pair_of, product_moves_at}
use Rattle.rela_nfa.specs.Stored.{move_of}
use Rattle.rela_nfa.proofs.Numbers.{product_moves_of}
use Rattle.rela_nfa.proofs.meet.product_edges.Goals as goal

pub loop-number-preserved : goal.loop-number-preserved
loop-number-preserved g c =
    let a = c.args.first.now in
    let b = c.args.second.now in
    let e = c.args.explored.now in
    let n = c.loop-number.number in
    let below : n < length e.pairs = subst (λ (l : List Pair). n < length l) c.pairs-pairs.ensures c.loop-number-test.true in
    let so_far = map (product_moves_at a b e) (range_with_len 0 n) in
    let added = map (move_of g.L.LabelSet.letters) c.add_joint.new.edges.items in
    let one : added ≡ product_moves_at a b e n =
    c.in_ok-add_joint.ensures ∙ ap (λ l. numbered (joint_moves a b (get_or l n (pair_of 0 0))) c.targets-targets.result.now) c.pairs-pairs.ensures
    ∙ ap (λ l. numbered (joint_moves a b (get_or e.pairs n (pair_of 0 0))) l) c.targets-targets.ensures ∙ sym (product_moves_of a b e n below (pair_of 0 0)) in (
      c.in_ok-push.ensures.taken,
      c.in_ok-push.ensures.list ∙ ap (λ (l : List (List Move)). l ++ added ∷ []) c.loop-number.invariant.1 ∙ ap (λ m. so_far ++ m ∷ []) one
          ∙ sym (map-range_with_len_more (product_moves_at a b e) 0 n n (omega arith)),
    )

pub returns : goal.returns
returns g c =
    let e = c.args.explored.now in
    let count : length c.pairs-pairs.result.now ≡ length e.pairs = ap (λ (l : List Pair). length l) c.pairs-pairs.ensures in
    let done : c.loop-number.number ≡ length e.pairs = omega (arith, count) in
    c.loop-number.invariant.1 ∙ ap (λ n. map (product_moves_at c.args.first.now c.args.second.now e) (range_with_len 0 n)) done
