use Rattle.std.proofs.Common.{◌≡◌, ◌<◌, List, Some, [], ◌∷◌, ◌++◌, inl, get_or, length, map, sym, ap, subst, ◌∙◌}
use Rattle.std.proofs.lemmas.List.{map_push}
use Rattle.rela_nfa.specs.Automaton.{Move}
use Rattle.rela_nfa.specs.Stored.{move_of}
use Rattle.rela_nfa.specs.declared.edge.Edge.{Edge}
use Rattle.std.specs.List.{All}
use Rattle.std.specs.Option.{ForSome}
use Rattle.rela_subset.proofs.Placing.{put_joined, read_sized}
use Rattle.rela_subset.proofs.bundle.Bundle.put.Goals as goal

pub joined-requires : goal.joined-requires
joined-requires g c =
    let letters = g.L.LabelSet.letters in
    let edges = c.self.inside.edges.items in
    let place = c.in-Some.place in
    read_sized letters edges place c.args.to (subst (λ (es : List (Edge g.row.L.Denot)). place < length es) c.deref-2.ensures.value c.in-Some.ensures.within)
    (subst (λ (es : List (Edge g.row.L.Denot)). (edge : Edge g.row.L.Denot) → (get_or es place edge).to ≡ c.args.to) c.deref-2.ensures.value c.in-Some.ensures.leads)
    c.index.result.now c.index.ensures (length (letters c.args.label))
    (subst (All (λ move. ForSome move.label (λ s. length s ≡ length (letters c.args.label)))) (sym c.self.view_is) c.requires)

pub returns-in-Some : goal.returns-in-Some
returns-in-Some g c =
    let letters = g.L.LabelSet.letters in
    let edges = c.self.inside.edges.items in
    let place = c.in-Some.place in
    put_joined letters edges place c.args.to (subst (λ (es : List (Edge g.row.L.Denot)). place < length es) c.deref-2.ensures.value c.in-Some.ensures.within)
    (subst (λ (es : List (Edge g.row.L.Denot)). (edge : Edge g.row.L.Denot) → (get_or es place edge).to ≡ c.args.to) c.deref-2.ensures.value c.in-Some.ensures.leads)
    c.index.result.now c.index.ensures c.in_ok-label.label c.args.self.now (letters c.args.label) c.self.view_is c.in_ok-label.ensures.size c.in_ok-label.ensures.either

pub returns : goal.returns
returns g c =
    let move = move_of g.L.LabelSet.letters in
    inl (ap (map move) c.in_ok-push.ensures.items ∙ map_push move c.self.inside.edges.items _
    ∙ ap (λ (l : List Move). l ++ record { label = Some (g.L.LabelSet.letters c.args.label); to = c.args.to } ∷ []) c.self.view_is)
