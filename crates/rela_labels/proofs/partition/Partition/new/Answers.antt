use Rattle.std.proofs.Common.{◌≡◌, ◌∙◌}
use Rattle.std.proofs.lemmas.Result.{IfOk-weaker}
use Rattle.rela_labels.specs.Partition.{block_count}
use Rattle.rela_labels.proofs.BlocksInOrder.{count_of_one}
use Rattle.rela_labels.proofs.partition.Partition.new.Goals as goal

pub returns-clause-count : goal.returns-clause-count
returns-clause-count c =
    IfOk-weaker c.fresh.result (λ partition. partition ≡ c.in_ok-blocks.blocks.items) (λ partition. block_count partition ≡ 1)
    (λ partition e. count_of_one c.args.symbols partition c.requires (e ∙ c.in_ok-blocks.ensures.items_if_clones_equal (λ y e. e)))
    c.fresh.ensures
