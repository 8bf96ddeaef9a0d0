use Rattle.std.proofs.Common.{◌≡◌, Some, IsSome, subst, ap, sym, refl, ◌∙◌}
use Rattle.std.specs.List.{slice_get}
use Rattle.std.specs.Option.{option_map}
use Rattle.rela_certfile.specs.declared.rows.ListedRow.{ListedRow}
use Rattle.rela_certfile.proofs.Lookups.{images_at, row_of_number}
use Rattle.rela_certfile.proofs.certificate.Certificate.images.Goals as goal

pub block-requires : goal.block-requires
block-requires c =
    let row : (row : ListedRow) × (slice_get c.args.self.now c.args.row ≡ Some row) = row_of_number c.args.self.now c.args.row c.requires in
    subst (λ o. IsSome o) (sym (images_at c.args.self.now c.args.row c.block_count.result row.0 row.1 c.block_count.ensures)) refl

pub returns : goal.returns
returns c =
    let row : (row : ListedRow) × (slice_get c.args.self.now c.args.row ≡ Some row) = row_of_number c.args.self.now c.args.row c.requires in
    ap (λ o. option_map (λ (listed : ListedRow). listed.images) o) row.1
    ∙ sym (images_at c.args.self.now c.args.row c.block_count.result row.0 row.1 c.block_count.ensures) ∙ c.block.ensures
