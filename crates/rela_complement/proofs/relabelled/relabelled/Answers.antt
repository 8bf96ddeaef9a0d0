use Rattle.std.proofs.Common.{refl}
use Rattle.rela_complement.proofs.OtherLetters.{relabelled_ok}
use Rattle.rela_complement.proofs.relabelled.relabelled.Goals as goal

pub from_lists-requires-clause-automaton : goal.from_lists-requires-clause-automaton
from_lists-requires-clause-automaton c =
    relabelled_ok c.args.letters.now c.args.nfa.now _
    (record { letters = refl; start = c.start.ensures.start; finals = c.in_ok-finals.ensures; edges = c.in_ok-edges.ensures }) c.start.ensures.automaton
