use Rattle.std.proofs.Common.{false, get_or, take, ap, sym, ◌∙◌, ◌++◌, [], ◌∷◌, arith}
use Rattle.std.proofs.lemmas.List.{take_more}
use Rattle.std.specs.Cmp.{both_ways}
use Rattle.rela_restriction.proofs.acting.finals_of.Goals as goal

pub loop-q-preserved : goal.loop-q-preserved
loop-q-preserved g c =
    let finals = c.args.transducer.now.finals in
    let q = c.loop-q.q in
    c.in_ok-push.ensures.items ∙ ap (λ l. l ++ c.is_final.result ∷ []) c.loop-q.invariant
    ∙ ap (λ b. take q finals ++ b ∷ []) (both_ways c.is_final.result (get_or finals q false) c.is_final.ensures.0 c.is_final.ensures.1)
    ∙ sym (take_more finals q false (omega (arith, c.loop-q-test.true, c.states-q-end.ensures.states)))
