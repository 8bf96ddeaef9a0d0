use Rattle.std.proofs.Common.{◌≡◌, Some, map, take}
use Rattle.std.specs.List.{slice_get}
use Rattle.rela_certfile.specs.declared.rows.ListedRow.{ListedRow}
use Rattle.rela_certfile.proofs.certificate.Certificate.complements.Given as goal

-- the blocks so far
abbrev pub invariant-loop-block : goal.invariant-loop-block
invariant-loop-block l =
    (listed : ListedRow) → slice_get l.self l.row ≡ Some listed →
    map (λ steps. steps.now) l.blocks.items ≡ take l.block listed.complements
