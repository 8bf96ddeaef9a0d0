use Rattle.std.proofs.Common.{◌≡◌, ◌<◌, ℕ, List, [], ◌∷◌, ◌++◌, length, get_or, set, ◌⊎◌, ◌↔◌, sym, subst}
use Rattle.rela_witness.specs.Linked.{IsLinked, lists_of, AreLinks}
use Rattle.rela_witness.proofs.Linking.{list_pushed, list_kept, link_added, link_ok, lists_below}
use Rattle.rela_witness.proofs.links.Links.add.Goals.{After-index_mut}
use Rattle.rela_witness.proofs.links.Links.add.Goals as goal

below : (c : After-index_mut) → c.args.p < length c.self.inside.lists.items
below c = lists_below c.self.inside.lists.items c.args.self.now c.args.p c.self.view_is c.requires.from

in_view : (c : After-index_mut) → c.args.p < length (lists_of c.self.inside.lists.items)
in_view c = subst (λ (links : List (List ℕ)). c.args.p < length links) (sym c.self.view_is) c.requires.from

pub invariant_of-self : goal.invariant_of-self
invariant_of-self c =
    subst AreLinks
    (sym (list_kept c.self.inside.lists.items c.args.p c.index_mut.result.now c.push.new.self (below (goal.at.invariant_of-self c).After-index_mut) c.index_mut.ensures.value c.in_err-push.ensures.items))
    c.self.invariant

pub invariant_of-self-2 : goal.invariant_of-self-2
invariant_of-self-2 c =
    let before = (goal.at.invariant_of-self-2 c).After-index_mut in
    let to : c.args.q < length (lists_of c.self.inside.lists.items) = subst (λ (links : List (List ℕ)). c.args.q < length links) (sym c.self.view_is) c.requires.to in
    subst AreLinks
    (sym (list_pushed c.self.inside.lists.items c.args.p c.index_mut.result.now c.push.new.self (below before) c.index_mut.ensures.value c.args.q c.in_ok-push.ensures.items))
    (link_ok (lists_of c.self.inside.lists.items) c.args.p c.args.q (in_view before) c.self.invariant to)

pub returns-clause-added : goal.returns-clause-added
returns-clause-added c =
    let before = (goal.at.returns-clause-added c).After-index_mut in
    let lists = c.self.inside.lists.items in
    let p = c.args.p in
    let q = c.args.q in
    subst (λ (new : List (List ℕ)). (m n : ℕ) → IsLinked new m n ↔ (IsLinked c.args.self.now m n ⊎ ((p ≡ m) × (q ≡ n))))
    (sym (list_pushed lists p c.index_mut.result.now c.push.new.self (below before) c.index_mut.ensures.value q c.in_ok-push.ensures.items))
    (subst (λ (old : List (List ℕ)). (m n : ℕ) → IsLinked (set (lists_of lists) p (get_or (lists_of lists) p [] ++ q ∷ [])) m n ↔ (IsLinked old m n ⊎ ((p ≡ m) × (q ≡ n))))
    c.self.view_is (link_added (lists_of lists) p q (in_view before)))
