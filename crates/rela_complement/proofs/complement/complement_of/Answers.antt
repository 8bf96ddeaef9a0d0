use Rattle.rela_complement.proofs.LeastComplements.{complement}
use Rattle.rela_complement.proofs.complement.complement_of.Goals as goal

pub returns-clause-complement : goal.returns-clause-complement
returns-clause-complement c =
    complement c.args.over.now c.args.a.now c.in_ok-nfa.nfa c.in_ok-least.least c.in_ok-others.others c.requires.letters
    (record { over_is = c.in_ok-least.ensures.over; language = c.in_ok-least.ensures.language; alike = c.in_ok-least.ensures.alike; told = c.in_ok-least.ensures.told })
    c.start.ensures.automaton c.in_ok-others.ensures.over c.in_ok-nfa.ensures.automaton c.in_ok-others.ensures.states c.in_ok-others.ensures.language
    c.in_ok-nfa.ensures.reach c.in_ok-nfa.ensures.language
