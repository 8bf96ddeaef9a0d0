use Rattle.std.proofs.Common.{◌∷◌, [], ◌++◌, map, take, sym, ap, ◌∙◌}
use Rattle.std.proofs.lemmas.List.{map_more, take_all}
use Rattle.rela_pairs.specs.declared.pair.Pair.{Pair}
use Rattle.rela_nfa.specs.Meeting.{final_both}
use Rattle.rela_nfa.proofs.meet.product_finals.Goals as goal

pub loop-pair-preserved : goal.loop-pair-preserved
loop-pair-preserved g c =
    let final = final_both c.args.first.now c.args.second.now in
    let at = c.loop-pair.pair-index in
    let none : Pair = record { left = 0; right = 0 } in
    c.in_ok-push.ensures.items ∙ ap (λ l. l ++ c.is_final_pair.result ∷ []) c.loop-pair.invariant
    ∙ ap (λ b. map final (take at c.args.pairs.now) ++ b ∷ []) c.is_final_pair.ensures ∙ sym (map_more final c.args.pairs.now at none c.loop-pair-test.true)

pub returns : goal.returns
returns g c =
    c.loop-pair.invariant ∙ ap (map (final_both c.args.first.now c.args.second.now)) (take_all c.loop-pair.pair-index c.args.pairs.now c.loop-pair-test.false)

pub is_final_pair-requires-clause-left : goal.is_final_pair-requires-clause-left
is_final_pair-requires-clause-left g c =
    let none : Pair = record { left = 0; right = 0 } in
    (c.requires c.loop-pair.pair-index none c.loop-pair-test.true).0

pub is_final_pair-requires-clause-right : goal.is_final_pair-requires-clause-right
is_final_pair-requires-clause-right g c =
    let none : Pair = record { left = 0; right = 0 } in
    (c.requires c.loop-pair.pair-index none c.loop-pair-test.true).1
