use Rattle.std.proofs.Common.{◌∙◌, Some, ℕ, ap, sym, arith}
use Rattle.rela_cert.proofs.SameBlocks.{block_there, each_of_complements, same_complements_if_each}
use Rattle.rela_cert.proofs.same_blocks.have_same_complements.Goals as goal

pub begin_alike-requires-clause-row : goal.begin_alike-requires-clause-row
begin_alike-requires-clause-row c k below =
    block_there c.args.certificate.now c.args.row k c.block_count-count.result (c.listed_blocks.ensures c.args.certificate.now) c.requires.row
    c.block_count-count.ensures (omega (arith, below))

pub begin_alike-requires-clause-other : goal.begin_alike-requires-clause-other
begin_alike-requires-clause-other c k below =
    block_there c.args.certificate.now c.args.other k c.block_count.result (c.listed_blocks.ensures c.args.certificate.now) c.requires.other
    c.block_count.ensures (omega (arith, below, c.if-count-block_count.false))

pub returns : goal.returns
returns c =
    let rows = c.args.certificate.now in
    let blocks = c.listed_blocks.ensures rows in (
      λ yes. same_complements_if_each rows blocks c.args.row c.args.other c.requires.row c.requires.other c.block_count-count.result c.block_count-count.ensures
          (c.block_count.ensures ∙ ap (λ (n : ℕ). Some n) (sym c.if-count-block_count.false)) (c.begin_alike.ensures.0 yes),
      λ same. c.begin_alike.ensures.1 (each_of_complements rows blocks c.args.row c.args.other c.requires.row c.requires.other same c.block_count-count.result c.block_count-count.ensures),
    )
