use Rattle.std.proofs.Common.{◌<◌, ℕ, List, [], length, get_or, sym, subst, ◌∙◌}
use Rattle.std.specs.List.{All}
use Rattle.rela_witness.specs.Linked.{lists_of}
use Rattle.rela_witness.proofs.Linking.{list_read, lists_below}
use Rattle.rela_witness.proofs.links.Links.ends.Goals as goal

pub returns-clause-states : goal.returns-clause-states
returns-clause-states c =
    let lists = c.self.inside.lists.items in
    let p = c.args.p in
    let below = lists_below lists c.args.self.now p c.self.view_is c.requires in
    let in_view : p < length (lists_of lists) = subst (λ (links : List (List ℕ)). p < length links) (sym c.self.view_is) c.requires in
    subst (λ (ends : List ℕ). All (λ q. q < length c.args.self.now) ends) (sym (c.as_slice.ensures.value ∙ list_read lists p c.index.result.now below c.index.ensures))
    (subst (λ (links : List (List ℕ)). All (λ q. q < length links) (get_or (lists_of lists) p [])) c.self.view_is (c.self.invariant p [] in_view))
