use Rattle.std.proofs.Common.{◌∙◌, Some, ℕ, ap, arith}
use Rattle.rela_cert.proofs.SameBlocks.{block_there, each_if_same, same_if_each}
use Rattle.rela_cert.proofs.same_blocks.have_same_blocks.Goals as goal

pub begin_alike-requires-clause-row : goal.begin_alike-requires-clause-row
begin_alike-requires-clause-row c k below =
    block_there c.args.certificate.now c.args.row k c.block_count-count.result (c.listed_blocks.ensures c.args.certificate.now) c.requires.row
    c.block_count-count.ensures below

pub begin_alike-requires-clause-other : goal.begin_alike-requires-clause-other
begin_alike-requires-clause-other c k below =
    block_there c.args.certificate.now c.args.other k c.block_count.result (c.listed_blocks.ensures c.args.certificate.now) c.requires.other
    c.block_count.ensures (omega (arith, below, c.if-block_count-count.false))

pub returns : goal.returns
returns c =
    let rows = c.args.certificate.now in (
      λ yes. same_if_each rows c.args.row c.args.other (c.listed_blocks.ensures rows) c.requires.row c.requires.other c.block_count-count.result c.block_count-count.ensures
          (c.block_count.ensures ∙ ap (λ (n : ℕ). Some n) c.if-block_count-count.false) (c.begin_alike.ensures.0 yes),
      λ same. c.begin_alike.ensures.1 (λ k below. each_if_same rows c.args.row c.args.other (c.listed_blocks.ensures rows) c.requires.row c.requires.other same k),
    )
