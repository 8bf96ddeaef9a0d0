use Rattle.std.proofs.Common.{length}
use Rattle.rela_labels.specs.Apart.{IsReached}
use Rattle.rela_labels.proofs.ReachedSymbols.{left_to_walk}
use Rattle.rela_labels.proofs.base.Base.least_left.Given as goal

abbrev pub invariant-loop-reached : goal.invariant-loop-reached
invariant-loop-reached l = IsReached l.self.blocks.items l.apart l.block l.reached

abbrev pub decreases-loop-reached : goal.decreases-loop-reached
decreases-loop-reached l = left_to_walk (length l.self.blocks.items) l.reached
