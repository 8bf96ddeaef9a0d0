use Rattle.std.proofs.Common.{◌+◌, ◌*◌}
use Rattle.rela_rirfile.proofs.parsing.asserts.+tree.Given as goal

abbrev pub decreases-tree : goal.decreases-tree
decreases-tree l = 2 * l.room + 1

abbrev pub decreases-one_tree : goal.decreases-one_tree
decreases-one_tree l = 2 * l.room

abbrev pub decreases-two_trees : goal.decreases-two_trees
decreases-two_trees l = 2 * l.room
