use Rattle.std.proofs.Common.{◌+◌, ◌<◌, ◌≤◌, [], length, get_or, ap, ◌∙◌, arith, rules}
use Rattle.std.proofs.lemmas.List.{get_or_default}
use Rattle.rela_pairs.specs.Parting.{part}
use Rattle.rela_pairs.proofs.Parting.{parts_count, in_order, within, list_is}
use Rattle.rela_pairs.proofs.lists.Lists.list.Goals as goal

from_before_to : (c : goal.After-deref-2) → c.index-from.result.now ≤ c.end_of-to.result
from_before_to c =
    let numbers = c.self.inside.numbers.items in
    let starts = c.self.inside.starts.items in
    let here : c.args.number < length starts = omega (arith, c.requires, ap length c.self.view_is, parts_count numbers starts) in
    in_order numbers starts c.args.number c.index-from.result.now c.end_of-to.result c.self.invariant here
    (c.index-from.ensures ∙ get_or_default starts c.args.number c.index-from.result.now 0 here)
    (c.end_of-to.ensures ∙ ap (λ l. get_or l (c.args.number + 1) c.len.result) c.deref.ensures.value ∙ ap (get_or starts (c.args.number + 1)) (c.len.ensures ∙ c.self.inside.numbers.ok.0))

to_within : (c : goal.After-deref-2) → c.end_of-to.result ≤ length c.deref-2.result.now
to_within c =
    let numbers = c.self.inside.numbers.items in
    let starts = c.self.inside.starts.items in
    let here : c.args.number < length starts = omega (arith, c.requires, ap length c.self.view_is, parts_count numbers starts) in
    omega (
      arith,
      ap length c.deref-2.ensures.value,
      within numbers starts c.args.number c.index-from.result.now c.end_of-to.result c.self.invariant here
          (c.index-from.ensures ∙ get_or_default starts c.args.number c.index-from.result.now 0 here)
          (c.end_of-to.ensures ∙ ap (λ l. get_or l (c.args.number + 1) c.len.result) c.deref.ensures.value ∙ ap (get_or starts (c.args.number + 1)) (c.len.ensures ∙ c.self.inside.numbers.ok.0)),
    )

pub index-from-requires : goal.index-from-requires
index-from-requires c =
    omega (arith, c.requires, ap length c.self.view_is, parts_count c.self.inside.numbers.items c.self.inside.starts.items, c.self.inside.starts.ok.0)

pub end_of-to-requires : goal.end_of-to-requires
end_of-to-requires c =
    omega (arith, c.requires, ap length c.self.view_is, parts_count c.self.inside.numbers.items c.self.inside.starts.items, ap length c.deref.ensures.value)

pub offset_bounds-deref-from : goal.offset_bounds-deref-from
offset_bounds-deref-from c = let to = to_within c in let from = from_before_to c in search rules

pub slice_bounds-result-count : goal.slice_bounds-result-count
slice_bounds-result-count c = from_before_to c

pub slice_bounds-result-start : goal.slice_bounds-result-start
slice_bounds-result-start c = from_before_to c

pub slice_bounds-result-end : goal.slice_bounds-result-end
slice_bounds-result-end c = to_within c

pub returns : goal.returns
returns c =
    let numbers = c.self.inside.numbers.items in
    let starts = c.self.inside.starts.items in
    let here : c.args.number < length starts = omega (arith, c.requires, ap length c.self.view_is, parts_count numbers starts) in
    ap (λ l. part l c.index-from.result.now c.end_of-to.result) c.deref-2.ensures.value
    ∙ list_is numbers starts c.args.number c.index-from.result.now c.end_of-to.result c.self.invariant here
    (c.index-from.ensures ∙ get_or_default starts c.args.number c.index-from.result.now 0 here)
    (c.end_of-to.ensures ∙ ap (λ l. get_or l (c.args.number + 1) c.len.result) c.deref.ensures.value ∙ ap (get_or starts (c.args.number + 1)) (c.len.ensures ∙ c.self.inside.numbers.ok.0))
    ∙ ap (λ l. get_or l c.args.number []) c.self.view_is
