use Rattle.rela_labels.proofs.MovedKeys.{keyed_by_blocks}
use Rattle.rela_labels.proofs.splitter.Splitter.of.Goals as goal

pub invariant_of-result : goal.invariant_of-result
invariant_of-result c =
    keyed_by_blocks _ _ c.args.partition.now _ c.in_ok-keys.ensures.blocks c.blocks-2.ensures.partition c.keys.ensures.few
    c.blocks-2.ensures.count (c.in_ok-moved.ensures.items_if_clones_equal (λ y e. e))
