use Rattle.std.proofs.Common.{ℕ, List, [], ◌∷◌, ◌++◌, sym, ap, ◌∙◌, arith}
use Rattle.std.proofs.lemmas.List.FromFn.{map-range_with_len_more}
use Rattle.rela_letter_nfa.specs.Chains.{direct_silents}
use Rattle.rela_letter_nfa.proofs.without_chains.direct_silents.Goals as goal

pub loop-q-preserved : goal.loop-q-preserved
loop-q-preserved c =
    let f = direct_silents c.args.nfa.now c.args.ends.now in
    c.in_ok-close.ensures
    ∙ ap (λ (v : List (List ℕ) × List ℕ). (v.0 ++ v.1 ∷ [], []))
    (c.in_ok-push_kept.ensures ∙ ap (λ (v : List (List ℕ) × List ℕ). (v.0, v.1 ++ f c.loop-q.q)) c.loop-q.invariant)
    ∙ ap (λ (l : List (List ℕ)). (l, [])) (sym (map-range_with_len_more f 0 c.loop-q.q c.loop-q.q (omega arith)))
