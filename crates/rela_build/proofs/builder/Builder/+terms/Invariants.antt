use Rattle.std.proofs.Common.{◌+◌, ◌*◌, max}
use Rattle.rela_rir.proofs.term.PathTerm.TheLaws as paths
use Rattle.rela_rir.proofs.term.RelTerm.TheLaws as relations
use Rattle.rela_build.proofs.builder.Builder.+terms.Given as goal

abbrev pub decreases-automaton : goal.decreases-automaton
decreases-automaton g l = 2 * paths.the_size l.term.now

abbrev pub decreases-transducer : goal.decreases-transducer
decreases-transducer g l = 2 * relations.the_size l.term.now

abbrev pub decreases-two : goal.decreases-two
decreases-two g l = 2 * max (paths.the_size l.a.now) (paths.the_size l.b.now) + 1

abbrev pub decreases-two_transducers : goal.decreases-two_transducers
decreases-two_transducers g l = 2 * max (relations.the_size l.a.now) (relations.the_size l.b.now) + 1
