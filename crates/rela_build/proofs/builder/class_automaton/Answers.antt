use Rattle.rela_build.specs.Lettering.{IsInEntry}
use Rattle.rela_build.proofs.LetterAutomata.{of_class, of_no_class}
use Rattle.rela_build.proofs.builder.class_automaton.Goals as goal

pub returns-in_ok-class-in-Some : goal.returns-in_ok-class-in-Some
returns-in_ok-class-in-Some c =
    of_class c.args.letters.now.blocks (IsInEntry c.args.letters.now c.args.entry) c.in-Some.set.now c.in_ok-class-in-Some.class c.as_automaton.result c.count.result
    c.as_automaton.ensures.same c.as_automaton.ensures.automaton c.in-Some.ensures.letters c.count.ensures
    c.in_ok-class-in-Some.ensures.letters c.in_ok-class-in-Some.ensures.states c.in_ok-class-in-Some.ensures.start c.in_ok-class-in-Some.ensures.end c.in_ok-class-in-Some.ensures.language

pub returns-in_ok-none-in-None : goal.returns-in_ok-none-in-None
returns-in_ok-none-in-None c =
    of_no_class c.args.letters.now.blocks (IsInEntry c.args.letters.now c.args.entry) c.in_ok-none-in-None.none c.as_automaton-in-None.result c.count-in-None.result
    c.as_automaton-in-None.ensures.same c.as_automaton-in-None.ensures.automaton c.in-None.ensures.none c.count-in-None.ensures
    c.in_ok-none-in-None.ensures.letters c.in_ok-none-in-None.ensures.states c.in_ok-none-in-None.ensures.start c.in_ok-none-in-None.ensures.language
