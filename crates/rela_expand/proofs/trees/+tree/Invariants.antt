use Rattle.std.proofs.Common.{length}
use Rattle.rela_expand.proofs.trees.+tree.Given as goal

abbrev pub decreases-tree : goal.decreases-tree
decreases-tree l = length l.places.now
