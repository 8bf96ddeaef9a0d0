use Rattle.std.proofs.Common.{◌≡◌, ◌∷◌, [], ◌++◌, List, length, map, refl, sym, ap, ◌∙◌, append_assoc, append-nil, arith}
use Rattle.std.specs.Vec.Iter.{into_iter_items}
use Rattle.std.proofs.lemmas.List.{map_push}
use Rattle.rela_nfa.specs.Stored.{move_of, moves_in}
use Rattle.rela_nfa.proofs.edge_lists.EdgeLists.from_lists.Goals as goal

nothing_left : {X : Type 0} (l : List X) → length l ≡ 0 → l ≡ []
nothing_left [] h = refl
nothing_left (x ∷ xs) h = absurd (omega arith)

pub loop-edges-preserved : goal.loop-edges-preserved
loop-edges-preserved g c =
    let at = c.loop-edges in
    let x = c.in-Some.edges in
    let steps : into_iter_items at.edges-iterator ≡ x ∷ into_iter_items c.next.new.self = c.in-Some.ensures.steps.0 in (
      append_assoc at.yielded (x ∷ []) _ ∙ rw (← steps) at.invariant.0,
      c.in_ok-push.ensures.list ∙ ap (λ l. l ++ map (move_of g.L.LabelSet.letters) x.items ∷ []) at.invariant.1
          ∙ sym (map_push (λ v. map (move_of g.L.LabelSet.letters) v.items) at.yielded x),
      let was = at.invariant.2 in
          let gone = c.in-Some.ensures.steps.1 in
          let short = ap length steps in
          omega arith,
    )

pub returns : goal.returns
returns g c =
    let at = c.loop-edges in
    let none = c.in-None.ensures.steps in
    let empty : into_iter_items at.edges-iterator ≡ [] = nothing_left _ (sym at.invariant.2 ∙ none.0) in
    let all = sym (append-nil at.yielded) ∙ rw empty at at.invariant.0 ∙ c.into_iter-edges-iterator.ensures.into_iter_gives.0 in
    at.invariant.1 ∙ ap (moves_in g.L.LabelSet.letters) all
