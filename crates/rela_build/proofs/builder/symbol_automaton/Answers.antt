use Rattle.rela_build.proofs.LetterAutomata.{of_symbol}
use Rattle.rela_build.proofs.builder.symbol_automaton.Goals as goal

pub returns : goal.returns
returns c =
    of_symbol c.args.letters.now.blocks c.own.result c.args.symbol c.in_ok-word.word c.as_automaton.result c.count.result
    c.as_automaton.ensures.same c.as_automaton.ensures.automaton c.own.ensures.letter c.own.ensures.alone c.count.ensures
    c.in_ok-word.ensures.letters c.in_ok-word.ensures.states c.in_ok-word.ensures.reached c.in_ok-word.ensures.language
