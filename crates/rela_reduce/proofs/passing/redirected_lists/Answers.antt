use Rattle.std.proofs.Common.{◌<◌, ◌++◌, ◌∷◌, [], length, get_or, map, sym, ap, ◌∙◌, arith}
use Rattle.std.proofs.lemmas.List.{map_more}
use Rattle.rela_nfa.specs.Detours.{redirected}
use Rattle.rela_nfa.specs.Stored.{move_of}
use Rattle.rela_reduce.proofs.passing.redirected_lists.Goals as goal

pub loop-q-preserved : goal.loop-q-preserved
loop-q-preserved g c =
    let move = move_of g.L.LabelSet.letters in
    let lead = map (redirected c.args.ends.now) in
    let edges = c.args.a.now.edges in
    let q = c.loop-q.q in
    let below : q < length edges = omega (arith, c.loop-q-test.true, c.states-q-end.ensures.states, c.edges.ensures.automaton.each) in
    record {
      edges =
          c.in_ok-push.ensures.list
          ∙ ap (λ l. c.loop-q.edges ++ l ∷ [])
          (c.in_ok-push_redirected.ensures ∙ ap (λ l. map move l ++ lead (map move c.edges.result.now)) c.loop-q.invariant.none ∙ ap lead c.edges.ensures.moves)
          ∙ ap (λ l. l ++ lead (get_or edges q []) ∷ []) c.loop-q.invariant.edges ∙ sym (map_more lead edges q [] below);
      none = c.in_ok-push.ensures.taken;
    }
