use Rattle.rela_build.proofs.LetterAutomata.{of_no_paths}
use Rattle.rela_build.proofs.path_sets.no_words.Goals as goal

pub returns : goal.returns
returns c =
    of_no_paths c.args.blocks.now c.in_ok-none.none c.as_automaton.result c.blocks-letters.result c.as_automaton.ensures.same c.as_automaton.ensures.automaton c.blocks-letters.ensures.count
    c.in_ok-none.ensures.letters c.in_ok-none.ensures.states c.in_ok-none.ensures.start c.in_ok-none.ensures.language
