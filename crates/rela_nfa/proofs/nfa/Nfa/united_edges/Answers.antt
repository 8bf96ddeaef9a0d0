use Rattle.std.proofs.Common.{◌+◌, List, [], ◌∷◌, ◌++◌, map, None, ◌∙◌, ap}
use Rattle.rela_nfa.specs.Automaton.{Move}
use Rattle.rela_nfa.specs.Construction.{silent, copied}
use Rattle.rela_nfa.proofs.nfa.Nfa.united_edges.Goals as goal

pub returns : goal.returns
returns g c =
    let a = c.args.self.now in
    let b = c.args.other.now in
    c.in_ok-copy_onto-2.ensures
    ∙ ap (λ l. l ++ copied b (1 + c.states-count.result) None) (c.in_ok-copy_onto.ensures ∙ ap (λ (l : List (List Move)). l ++ copied a 1 None) c.in_ok-edges.ensures)
    ∙ (λ i. map silent ((1 + c.start.ensures.start i) ∷ (1 + c.states-count.ensures.states i + c.start-2.ensures.start i) ∷ [])
    ∷ copied a 1 None ++ copied b (1 + c.states-count.ensures.states i) None)
