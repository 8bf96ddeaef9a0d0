use Rattle.std.proofs.Common.{List, map, ap, sym, ◌∙◌, ◌++◌, [], ◌∷◌, append_assoc, arith}
use Rattle.std.specs.List.{range_with_len}
use Rattle.std.proofs.lemmas.List.FromFn.{map-range_with_len_more}
use Rattle.rela_nfa.specs.Automaton.{Move}
use Rattle.rela_nfa.specs.Construction.{leaving}
use Rattle.rela_nfa.specs.Stored.{move_of}
use Rattle.rela_nfa.proofs.nfa.Nfa.copy_onto.Goals as goal

pub loop-q-preserved : goal.loop-q-preserved
loop-q-preserved g c =
    let move = move_of g.L.LabelSet.letters in
    let f = leaving c.args.self.now c.args.by c.args.exit in
    let old = c.args.edges.now in
    let so_far = map f (range_with_len 0 c.loop-q.q) in (
      c.in_ok-push.ensures.taken,
      c.in_ok-push.ensures.list ∙ ap (λ l. c.loop-q.edges ++ l ∷ []) (c.in_ok-add_leaving.ensures ∙ ap (λ l. map move l ++ f c.loop-q.q) c.loop-q.invariant.0)
          ∙ ap (λ (l : List (List Move)). l ++ f c.loop-q.q ∷ []) c.loop-q.invariant.1 ∙ append_assoc old so_far (f c.loop-q.q ∷ [])
          ∙ ap (λ l. old ++ l) (sym (map-range_with_len_more f 0 c.loop-q.q c.loop-q.q (omega arith))),
    )
