use Rattle.std.proofs.Common.{◌≡◌, ◌-◌, ◌≤◌, Some, length, ap, ◌∙◌, arith}
use Rattle.std.specs.Option.{option_map}
use Rattle.std.specs.List.{slice_get}
use Rattle.rela_certfile.specs.declared.rows.ListedRow.{ListedRow}
use Rattle.rela_certfile.specs.Blocks.{blocks_of}
use Rattle.rela_certfile.specs.Parts.{end_of}
use Rattle.rela_certfile.proofs.Lookups.{count_found, row_within, seen}
use Rattle.rela_certfile.proofs.certificate.Certificate.block_count.Goals as goal

pub index-from-requires : goal.index-from-requires
index-from-requires c =
    omega (arith, c.self.inside.firsts.ok.0, row_within c.args.self.now _ _ _ _ c.args.row (seen _ _ _ _ _ c.self.view_is c.self.invariant) c.requires)

pub end_of-requires : goal.end_of-requires
end_of-requires c =
    omega (arith, ap length c.deref.ensures.value, row_within c.args.self.now _ _ _ _ c.args.row (seen _ _ _ _ _ c.self.view_is c.self.invariant) c.requires)

count : (c : goal.After-end_of) → (c.index-from.result.now ≤ c.end_of.result) × (option_map (λ (listed : ListedRow). length (blocks_of listed)) (slice_get c.args.self.now c.args.row) ≡ Some (c.end_of.result - c.index-from.result.now))
count c =
    count_found c.args.self.now _ _ _ _ c.args.row c.index-from.result.now c.end_of.result c.len.result
    (seen _ _ _ _ _ c.self.view_is c.self.invariant) c.requires c.index-from.ensures
    (c.len.ensures ∙ c.self.inside.starts.ok.0)
    (c.end_of.ensures ∙ ap (λ firsts. end_of firsts c.args.row c.len.result) c.deref.ensures.value)

pub overflow_sub-result : goal.overflow_sub-result
overflow_sub-result c = (count c).0

pub returns : goal.returns
returns c = (count c).1
