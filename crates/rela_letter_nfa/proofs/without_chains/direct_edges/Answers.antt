use Rattle.std.proofs.Common.{List, [], ◌∷◌, ◌++◌, map, sym, ap, ◌∙◌, arith}
use Rattle.std.specs.List.{flat_map, range_with_len}
use Rattle.std.proofs.lemmas.List.FromFn.{map-range_with_len_more}
use Rattle.rela_letter_nfa.specs.Chains.{direct_edges, moved, pulled_edges}
use Rattle.rela_letter_nfa.specs.LetterAutomaton.{silents_of}
use Rattle.rela_letter_nfa.specs.declared.edge.LetterEdge.{LetterEdge}
use Rattle.rela_letter_nfa.proofs.without_chains.direct_edges.Goals as goal

pub loop-q-preserved : goal.loop-q-preserved
loop-q-preserved c =
    let a = c.args.nfa.now in
    let ends = c.args.ends.now in
    let f = direct_edges a ends in
    let pulled = flat_map (pulled_edges a ends) (silents_of a c.loop-q.q) in
    c.in_ok-close.ensures
    ∙ ap (λ (v : List (List LetterEdge) × List LetterEdge). (v.0 ++ v.1 ∷ [], []))
    (c.in_ok-push_pulled.ensures
    ∙ ap (λ (v : List (List LetterEdge) × List LetterEdge). (v.0, v.1 ++ pulled))
    (c.in_ok-push_moved.ensures ∙ ap (λ (v : List (List LetterEdge) × List LetterEdge). (v.0, v.1 ++ map (moved ends) c.edges.result.now)) c.loop-q.invariant)
    ∙ ap (λ (l : List LetterEdge). (map f (range_with_len 0 c.loop-q.q), map (moved ends) l ++ pulled)) c.edges.ensures.edges)
    ∙ ap (λ (l : List (List LetterEdge)). (l, [])) (sym (map-range_with_len_more f 0 c.loop-q.q c.loop-q.q (omega arith)))
