use Rattle.std.proofs.Common.{◌≡◌, List, map, ap, sym, ◌∙◌, ◌++◌, [], ◌∷◌, arith}
use Rattle.std.specs.List.{range_with_len}
use Rattle.std.proofs.lemmas.List.FromFn.{map-range_with_len_more}
use Rattle.rela_nfa.specs.Automaton.{Move, states}
use Rattle.rela_nfa.specs.Detours.{direct_moves}
use Rattle.rela_nfa.specs.Stored.{move_of}
use Rattle.rela_nfa.proofs.shortened.direct_lists.Goals as goal

pub loop-q-preserved : goal.loop-q-preserved
loop-q-preserved g c =
    let move = move_of g.L.LabelSet.letters in
    let f = direct_moves c.args.nfa.now c.args.ends.now in
    let so_far = map f (range_with_len 0 c.loop-q.q) in (
      c.in_ok-push.ensures.taken,
      c.in_ok-push.ensures.list ∙ ap (λ l. c.loop-q.edges ++ l ∷ []) (c.in_ok-add_direct.ensures ∙ ap (λ l. map move l ++ f c.loop-q.q) c.loop-q.invariant.0)
          ∙ ap (λ (l : List (List Move)). l ++ f c.loop-q.q ∷ []) c.loop-q.invariant.1
          ∙ sym (map-range_with_len_more f 0 c.loop-q.q c.loop-q.q (omega arith)),
    )

pub returns : goal.returns
returns g c =
    let all : c.loop-q.q ≡ states c.args.nfa.now = omega arith in
    c.loop-q.invariant.1 ∙ ap (λ n. map (direct_moves c.args.nfa.now c.args.ends.now) (range_with_len 0 n)) all
