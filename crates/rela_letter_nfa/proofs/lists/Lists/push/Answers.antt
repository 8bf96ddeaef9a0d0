use Rattle.std.proofs.Common.{◌++◌, [], ◌∷◌, length, ◌∙◌, subst, sym, arith, length-append}
use Rattle.rela_letter_nfa.specs.Parting.{ArePlaces, part_behind, parts_between}
use Rattle.rela_letter_nfa.proofs.Parting.{behind_more, between_kept, places_before}
use Rattle.rela_letter_nfa.proofs.lists.Lists.push.Goals as goal

pub invariant_of-self-2 : goal.invariant_of-self-2
invariant_of-self-2 g c =
    let items = c.self.inside.items.items in
    subst (λ l. ArePlaces (length l) c.self.inside.places.items) (sym c.in_ok-push.ensures.items)
    (places_before (length items) (length (items ++ c.args.item ∷ [])) c.self.inside.places.items (omega (arith, length-append items (c.args.item ∷ []))) c.self.invariant)

pub returns-clause-pushed : goal.returns-clause-pushed
returns-clause-pushed g c =
    let items = c.self.inside.items.items in
    let places = c.self.inside.places.items in
    (λ i. (parts_between (c.in_ok-push.ensures.items i) places, part_behind (c.in_ok-push.ensures.items i) places))
    ∙ (λ i. (between_kept items (c.args.item ∷ []) places c.self.invariant i, behind_more items (c.args.item ∷ []) places c.self.invariant i))
    ∙ (λ i. ((c.self.view_is i).0, (c.self.view_is i).1 ++ c.args.item ∷ []))

pub returns-clause-closed : goal.returns-clause-closed
returns-clause-closed g c =
    let items = c.self.inside.items.items in
    let places = c.self.inside.places.items in
    (λ i. parts_between (c.in_ok-push.ensures.items i) places)
    ∙ between_kept items (c.args.item ∷ []) places c.self.invariant
    ∙ (λ i. (c.self.view_is i).0)
