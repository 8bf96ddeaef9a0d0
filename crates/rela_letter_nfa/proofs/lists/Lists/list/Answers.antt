use Rattle.std.proofs.Common.{◌<◌, ◌≤◌, [], length, get_or, ap, ◌∙◌, arith, rules}
use Rattle.rela_letter_nfa.specs.Parting.{part, parts_between}
use Rattle.rela_letter_nfa.proofs.Parting.{list_in_order, list_is, list_within, place_below}
use Rattle.rela_letter_nfa.proofs.lists.Lists.list.Given.{Over}
use Rattle.rela_letter_nfa.proofs.lists.Lists.list.Goals as goal

module _ (g : Over) (c : goal.After-deref-2 g) where
  closed : c.args.number < length (parts_between c.self.inside.items.items c.self.inside.places.items)
  closed = omega (arith, c.requires, ap (λ v. length v.0) c.self.view_is)

  from_before_to : c.place_and_next-from.result.0 ≤ c.place_and_next-from.result.1
  from_before_to =
      list_in_order c.self.inside.items.items c.self.inside.places.items c.deref.result.now c.args.number c.place_and_next-from.result.0 c.place_and_next-from.result.1 c.self.invariant closed
      c.deref.ensures.value c.place_and_next-from.ensures.place c.place_and_next-from.ensures.next

  to_within : c.place_and_next-from.result.1 ≤ length c.deref-2.result.now
  to_within =
      omega (
        arith,
        ap length c.deref-2.ensures.value,
        list_within c.self.inside.items.items c.self.inside.places.items c.deref.result.now c.args.number c.place_and_next-from.result.0 c.place_and_next-from.result.1 c.self.invariant closed
            c.deref.ensures.value c.place_and_next-from.ensures.place c.place_and_next-from.ensures.next,
      )

pub place_and_next-from-requires : goal.place_and_next-from-requires
place_and_next-from-requires g c =
    let closed : c.args.number < length (parts_between c.self.inside.items.items c.self.inside.places.items) = omega (arith, c.requires, ap (λ v. length v.0) c.self.view_is) in
    place_below c.self.inside.items.items c.self.inside.places.items c.deref.result.now c.args.number 0 0 c.self.invariant closed c.deref.ensures.value

pub offset_bounds-deref-from : goal.offset_bounds-deref-from
offset_bounds-deref-from g c = let to = to_within g c in let from = from_before_to g c in search rules

pub slice_bounds-result-count : goal.slice_bounds-result-count
slice_bounds-result-count g c = from_before_to g c

pub slice_bounds-result-start : goal.slice_bounds-result-start
slice_bounds-result-start g c = from_before_to g c

pub slice_bounds-result-end : goal.slice_bounds-result-end
slice_bounds-result-end g c = to_within g c

pub returns : goal.returns
returns g c =
    let items = c.self.inside.items.items in
    let places = c.self.inside.places.items in
    let closed : c.args.number < length (parts_between items places) = omega (arith, c.requires, ap (λ v. length v.0) c.self.view_is) in
    ap (λ l. part l c.place_and_next-from.result.0 c.place_and_next-from.result.1) c.deref-2.ensures.value
    ∙ list_is items places c.deref.result.now c.args.number c.place_and_next-from.result.0 c.place_and_next-from.result.1 c.self.invariant closed c.deref.ensures.value
    c.place_and_next-from.ensures.place c.place_and_next-from.ensures.next
    ∙ ap (λ v. get_or v.0 c.args.number []) c.self.view_is
