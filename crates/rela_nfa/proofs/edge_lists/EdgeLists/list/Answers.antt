use Rattle.std.proofs.Common.{◌≡◌, ◌+◌, ◌<◌, ◌≤◌, List, [], length, get_or, map, ap, ◌∙◌, arith, rules}
use Rattle.std.proofs.lemmas.List.{get_or_default}
use Rattle.rela_pairs.specs.Parting.{part}
use Rattle.rela_nfa.specs.Automaton.{Move}
use Rattle.rela_nfa.specs.Stored.{move_of}
use Rattle.rela_nfa.proofs.Parted.{parts_count, list_in_order, list_within, list_mapped}
use Rattle.rela_nfa.proofs.edge_lists.EdgeLists.list.Given.{Over}
use Rattle.rela_nfa.proofs.edge_lists.EdgeLists.list.Goals as goal

module _ (g : Over) (c : goal.After-deref-2 g) where
  here : c.args.q < length c.self.inside.starts.items
  here = omega (arith, c.requires, ap length c.self.view_is, parts_count (map (move_of g.L.LabelSet.letters) c.self.inside.edges.items) c.self.inside.starts.items)

  from_is : c.index-from.result.now ≡ get_or c.self.inside.starts.items c.args.q 0
  from_is = c.index-from.ensures ∙ get_or_default c.self.inside.starts.items c.args.q c.index-from.result.now 0 here

  to_is : c.end_of-to.result ≡ get_or c.self.inside.starts.items (c.args.q + 1) (length c.self.inside.edges.items)
  to_is =
      c.end_of-to.ensures ∙ ap (λ l. get_or l (c.args.q + 1) c.len.result) c.deref.ensures.value
      ∙ ap (get_or c.self.inside.starts.items (c.args.q + 1)) (c.len.ensures ∙ c.self.inside.edges.ok.0)

  from_before_to : c.index-from.result.now ≤ c.end_of-to.result
  from_before_to =
      list_in_order (move_of g.L.LabelSet.letters) c.self.inside.edges.items c.self.inside.starts.items c.args.q c.index-from.result.now c.end_of-to.result c.self.invariant here from_is to_is

  to_within : c.end_of-to.result ≤ length c.deref-2.result.now
  to_within =
      omega (
        arith,
        ap length c.deref-2.ensures.value,
        list_within (move_of g.L.LabelSet.letters) c.self.inside.edges.items c.self.inside.starts.items c.args.q c.index-from.result.now c.end_of-to.result c.self.invariant here from_is to_is,
      )

pub index-from-requires : goal.index-from-requires
index-from-requires g c =
    omega (
      arith,
      c.requires,
      ap length c.self.view_is,
      parts_count (map (move_of g.L.LabelSet.letters) c.self.inside.edges.items) c.self.inside.starts.items,
      c.self.inside.starts.ok.0,
    )

pub end_of-to-requires : goal.end_of-to-requires
end_of-to-requires g c =
    omega (
      arith,
      c.requires,
      ap length c.self.view_is,
      parts_count (map (move_of g.L.LabelSet.letters) c.self.inside.edges.items) c.self.inside.starts.items,
      ap length c.deref.ensures.value,
    )

pub offset_bounds-deref-from : goal.offset_bounds-deref-from
offset_bounds-deref-from g c = let to = to_within g c in let from = from_before_to g c in search rules

pub slice_bounds-result-count : goal.slice_bounds-result-count
slice_bounds-result-count g c = from_before_to g c

pub slice_bounds-result-start : goal.slice_bounds-result-start
slice_bounds-result-start g c = from_before_to g c

pub slice_bounds-result-end : goal.slice_bounds-result-end
slice_bounds-result-end g c = to_within g c

pub returns : goal.returns
returns g c =
    let move = move_of g.L.LabelSet.letters in
    let starts = c.self.inside.starts.items in
    let here : c.args.q < length starts = omega (arith, c.requires, ap length c.self.view_is, parts_count (map move c.self.inside.edges.items) starts) in
    ap (λ l. map move (part l c.index-from.result.now c.end_of-to.result)) c.deref-2.ensures.value
    ∙ list_mapped move c.self.inside.edges.items c.self.inside.starts.items c.args.q c.index-from.result.now c.end_of-to.result c.self.invariant here
    (c.index-from.ensures ∙ get_or_default starts c.args.q c.index-from.result.now 0 here)
    (c.end_of-to.ensures ∙ ap (λ l. get_or l (c.args.q + 1) c.len.result) c.deref.ensures.value ∙ ap (get_or starts (c.args.q + 1)) (c.len.ensures ∙ c.self.inside.edges.ok.0))
    ∙ ap (λ (l : List (List Move)). get_or l c.args.q []) c.self.view_is
