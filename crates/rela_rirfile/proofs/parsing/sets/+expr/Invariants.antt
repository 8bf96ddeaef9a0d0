use Rattle.std.proofs.Common.{◌+◌, ◌*◌}
use Rattle.rela_rirfile.proofs.parsing.sets.+expr.Given as goal

abbrev pub decreases-set : goal.decreases-set
decreases-set l = 2 * l.room + 1

abbrev pub decreases-rel : goal.decreases-rel
decreases-rel l = 2 * l.room + 1

abbrev pub decreases-one_set : goal.decreases-one_set
decreases-one_set l = 2 * l.room

abbrev pub decreases-two_sets : goal.decreases-two_sets
decreases-two_sets l = 2 * l.room

abbrev pub decreases-set_and_rel : goal.decreases-set_and_rel
decreases-set_and_rel l = 2 * l.room

abbrev pub decreases-one_rel : goal.decreases-one_rel
decreases-one_rel l = 2 * l.room

abbrev pub decreases-two_rels : goal.decreases-two_rels
decreases-two_rels l = 2 * l.room
