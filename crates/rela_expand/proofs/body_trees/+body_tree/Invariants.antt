use Rattle.std.proofs.Common.{length}
use Rattle.rela_expand.proofs.body_trees.+body_tree.Given as goal

abbrev pub decreases-body_tree : goal.decreases-body_tree
decreases-body_tree l = length l.places.now
