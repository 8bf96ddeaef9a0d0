use Rattle.rela_labels.proofs.BlocksInOrder.{firsts_below, least_of_value}
use Rattle.rela_labels.proofs.partition.Partition.representative.Goals as goal

pub index-requires : goal.index-requires
index-requires c = firsts_below _ _ _ c.args.block _ c.self.invariant.numbered c.self.view_is c.self.inside.least.ok.0 c.requires

pub returns : goal.returns
returns c = least_of_value _ _ _ c.args.block _ c.self.invariant.numbered c.self.view_is c.requires c.index.ensures
