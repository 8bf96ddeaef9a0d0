use Rattle.std.proofs.Common.{◌+◌, ◌*◌, max}
use Rattle.rela_rir.proofs.term.PathTerm.TheLaws as paths
use Rattle.rela_rir.proofs.term.RelTerm.TheLaws as relations
use Rattle.rela_engine.proofs.named.+names.Given as goal

abbrev pub decreases-push_symbols : goal.decreases-push_symbols
decreases-push_symbols l = 2 * paths.the_size l.term.now

abbrev pub decreases-push_both : goal.decreases-push_both
decreases-push_both l = 2 * max (paths.the_size l.a.now) (paths.the_size l.b.now) + 1

abbrev pub decreases-push_of_relation : goal.decreases-push_of_relation
decreases-push_of_relation l = 2 * relations.the_size l.term.now

abbrev pub decreases-push_both_of_relations : goal.decreases-push_both_of_relations
decreases-push_both_of_relations l = 2 * max (relations.the_size l.a.now) (relations.the_size l.b.now) + 1
