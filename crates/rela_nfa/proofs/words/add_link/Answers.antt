use Rattle.std.proofs.Common.{◌+◌, List, [], ◌∷◌, ◌++◌, map, Some, ◌∙◌, ap}
use Rattle.rela_nfa.specs.Automaton.{Move}
use Rattle.rela_nfa.specs.Construction.{link_by}
use Rattle.rela_nfa.specs.Stored.{move_of}
use Rattle.rela_nfa.proofs.words.add_link.Goals as goal

pub returns-clause-edges : goal.returns-clause-edges
returns-clause-edges g c =
    let move = move_of g.L.LabelSet.letters in
    c.in_ok-push-2.ensures.list
    ∙ ap (λ (m : List Move). c.args.edges.now ++ m ∷ [])
    (ap (map move) c.in_ok-push.ensures.items ∙ ap (λ l. map move (l ++ record { label = Some c.args.set; to = c.len-next.result + 1 } ∷ [])) c.requires.empty
    ∙ ap (link_by (g.L.LabelSet.letters c.args.set)) c.len-next.ensures)
