use Rattle.std.proofs.Common.{◌<◌, ◌∷◌, [], ◌++◌, List, length, take, ap, sym, ◌∙◌, subst, arith}
use Rattle.std.proofs.lemmas.List.{take_more}
use Rattle.rela_nfa.specs.Automaton.{Move, moves_of}
use Rattle.rela_reduce.specs.Stored.{lists_of}
use Rattle.rela_reduce.proofs.Labelling.{AreLists, lists_push}
use Rattle.rela_reduce.proofs.Stepping as stepping
use Rattle.rela_reduce.proofs.numbered.arrows_of.Goals as goal

pub loop-q-preserved : goal.loop-q-preserved
loop-q-preserved g c =
    let a = c.args.a.now in
    let q = c.loop-q.q in
    let q_in : q < length a.edges = omega (arith, c.states.ensures.automaton.each, c.states-q-end.ensures.states) in
    let labels = c.arrows_for.new.labels in
    let old = c.loop-q.lists.items in
    let more : AreLists labels (take q a.edges ++ moves_of a q ∷ []) (lists_of old ++ c.in_ok-list.list.items ∷ []) =
    lists_push c.loop-q.labels labels (take q a.edges) (lists_of old) c.in_ok-list.list.items (moves_of a q) c.loop-q.invariant c.in_ok-list.ensures.grown c.in_ok-list.ensures.known
    (c.in_ok-list.ensures.edges ∙ c.edges.ensures.moves) in
    subst (λ (mss : List (List Move)). AreLists labels mss (lists_of c.push.new.self.items)) (sym (take_more a.edges q [] q_in))
    (subst (AreLists labels (take q a.edges ++ moves_of a q ∷ [])) (sym (ap lists_of c.in_ok-push.ensures.items ∙ stepping.lists_push old c.in_ok-list.list)) more)
