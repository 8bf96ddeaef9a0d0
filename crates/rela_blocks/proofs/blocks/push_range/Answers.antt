use Rattle.rela_blocks.proofs.RowPartitions.{range_pushed}
use Rattle.rela_blocks.proofs.blocks.push_range.Goals as goal

pub loop-k-preserved : goal.loop-k-preserved
loop-k-preserved c =
    range_pushed c.args.symbols.now.items c.args.first c.loop-k.k c.loop-k.symbols.items c.push.new.self.items c.loop-k.invariant c.in_ok-push.ensures.items
