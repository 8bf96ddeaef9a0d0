use Rattle.std.proofs.Common.{◌≡◌, ap, ◌∙◌}
use Rattle.std.proofs.lemmas.Result.{IfOk-weaker}
use Rattle.rela_labels.specs.Partition.{block_count}
use Rattle.rela_labels.proofs.BlocksInOrder.{counts, own_blocks}
use Rattle.rela_labels.proofs.partition.Partition.finest.Goals as goal

pub fresh-requires : goal.fresh-requires
fresh-requires c =
    own_blocks c.args.symbols _ _ c.requires c.ranges.symbols.fits c.in_ok-blocks.ensures.len c.in_ok-least.ensures.len
    c.in_ok-blocks.ensures.each c.in_ok-least.ensures.each

pub returns-clause-count : goal.returns-clause-count
returns-clause-count c =
    IfOk-weaker c.fresh.result (λ partition. partition ≡ c.in_ok-blocks.blocks.items) (λ partition. block_count partition ≡ c.args.symbols)
    (λ partition e. ap block_count e
    ∙ counts _ _ (own_blocks c.args.symbols _ _ c.requires c.ranges.symbols.fits c.in_ok-blocks.ensures.len c.in_ok-least.ensures.len
    c.in_ok-blocks.ensures.each c.in_ok-least.ensures.each)
    ∙ c.in_ok-least.ensures.len)
    c.fresh.ensures
