use Rattle.std.proofs.Common.{◌≡◌, ◌++◌, [], ◌∷◌, length, ap, ◌∙◌, subst, sym}
use Rattle.rela_letter_nfa.specs.Parting.{ArePlaces, part_behind, parts_between}
use Rattle.rela_letter_nfa.proofs.Parting.{behind_none, between_more, places_more}
use Rattle.rela_letter_nfa.proofs.lists.Lists.close.Goals as goal

pub invariant_of-self-2 : goal.invariant_of-self-2
invariant_of-self-2 g c =
    let items = c.self.inside.items.items in
    let places = c.self.inside.places.items in
    let all : c.len.result ≡ length items = c.len.ensures ∙ c.self.inside.items.ok.0 in
    let pushed : c.push.new.self.items ≡ places ++ length items ∷ [] = c.in_ok-push.ensures.items ∙ ap (λ n. places ++ n ∷ []) all in
    subst (ArePlaces (length items)) (sym pushed) (places_more (length items) places c.self.invariant)

pub returns : goal.returns
returns g c =
    let items = c.self.inside.items.items in
    let places = c.self.inside.places.items in
    let all : c.len.result ≡ length items = c.len.ensures ∙ c.self.inside.items.ok.0 in
    let pushed : c.push.new.self.items ≡ places ++ length items ∷ [] = c.in_ok-push.ensures.items ∙ ap (λ n. places ++ n ∷ []) all in
    (λ i. (parts_between items (pushed i), part_behind items (pushed i)))
    ∙ (λ i. (between_more items places c.self.invariant i, behind_none items places c.self.invariant i))
    ∙ (λ i. ((c.self.view_is i).0 ++ (c.self.view_is i).1 ∷ [], []))
