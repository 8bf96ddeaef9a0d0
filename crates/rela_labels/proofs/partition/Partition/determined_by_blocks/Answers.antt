use Rattle.std.proofs.Common.{subst}
use Rattle.rela_labels.specs.Partition.{IsPartition}
use Rattle.rela_labels.proofs.BlocksInOrder.{same_partitions}
use Rattle.rela_labels.proofs.partition.Partition.determined_by_blocks.Goals as goal

pub returns : goal.returns
returns c =
    same_partitions _ _ (subst IsPartition c.self.view_is c.self.invariant.numbered.partition) (subst IsPartition c.other.view_is c.other.invariant.numbered.partition)
