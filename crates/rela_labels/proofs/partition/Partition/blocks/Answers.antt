use Rattle.std.proofs.Common.{◌∙◌}
use Rattle.rela_labels.proofs.BlocksInOrder.{count_of_value}
use Rattle.rela_labels.proofs.partition.Partition.blocks.Goals as goal

pub returns-clause-count : goal.returns-clause-count
returns-clause-count c = count_of_value _ _ _ _ c.self.invariant.numbered c.self.view_is (c.len.ensures ∙ c.self.inside.least.ok.0)
