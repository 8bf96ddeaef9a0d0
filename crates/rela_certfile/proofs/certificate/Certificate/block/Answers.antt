use Rattle.std.proofs.Common.{◌≤◌, length, ap, ◌∙◌, rules, arith}
use Rattle.rela_certfile.specs.Parts.{end_of}
use Rattle.rela_certfile.proofs.Lookups.{Found, block_found, start_there, seen}
use Rattle.rela_certfile.proofs.certificate.Certificate.block.Goals as goal

pub index-from-requires : goal.index-from-requires
index-from-requires c =
    omega (
      arith,
      c.self.inside.starts.ok.0,
      start_there c.args.self.now _ _ _ _ c.args.row c.args.block c.number-number.result (seen _ _ _ _ _ c.self.view_is c.self.invariant) c.requires c.number-number.ensures,
    )

pub end_of-to-requires : goal.end_of-to-requires
end_of-to-requires c =
    omega (
      arith,
      ap length c.deref.ensures.value,
      start_there c.args.self.now _ _ _ _ c.args.row c.args.block c.number-number.result (seen _ _ _ _ _ c.self.view_is c.self.invariant) c.requires c.number-number.ensures,
    )

found : (c : goal.After-deref-2) → Found c.args.self.now c.self.inside.steps.items c.args.row c.args.block c.index-from.result.now c.end_of-to.result
found c =
    block_found c.args.self.now _ _ _ _ c.args.row c.args.block c.number-number.result c.index-from.result.now c.end_of-to.result c.len.result
    (seen _ _ _ _ _ c.self.view_is c.self.invariant) c.requires c.number-number.ensures c.index-from.ensures
    (c.len.ensures ∙ c.self.inside.steps.ok.0)
    (c.end_of-to.ensures ∙ ap (λ starts. end_of starts c.number-number.result c.len.result) c.deref.ensures.value)

within : (c : goal.After-deref-2) → c.end_of-to.result ≤ length c.deref-2.result.now
within c = omega (arith, (found c).inside, ap length c.deref-2.ensures.value)

pub offset_bounds-deref-from : goal.offset_bounds-deref-from
offset_bounds-deref-from c = let to = within c in let from = (found c).ordered in search rules

pub slice_bounds-result-count : goal.slice_bounds-result-count
slice_bounds-result-count c = (found c).ordered

pub slice_bounds-result-start : goal.slice_bounds-result-start
slice_bounds-result-start c = (found c).ordered

pub slice_bounds-result-end : goal.slice_bounds-result-end
slice_bounds-result-end c = within c

pub returns : goal.returns
returns c =
    rw c.deref-2.ensures.value
    (block_found c.args.self.now _ _ _ _ c.args.row c.args.block c.number-number.result c.index-from.result.now c.end_of-to.result c.len.result
    (seen _ _ _ _ _ c.self.view_is c.self.invariant) c.requires c.number-number.ensures c.index-from.ensures
    (c.len.ensures ∙ c.self.inside.steps.ok.0)
    (c.end_of-to.ensures ∙ ap (λ starts. end_of starts c.number-number.result c.len.result) c.deref.ensures.value)).its
