use Rattle.rela_build.proofs.MadeTerms as terms
use Rattle.rela_build.proofs.builder.Builder.none.Goals as goal

pub returns : goal.returns
returns g c =
    terms.none g.C.Complements.tells_all _ g.P.PathSets.paths c.built_terms_are_placed.ensures c.args.self.now.letters.now c.args.self.now.paths.now c.in_ok-none.none c.as_automaton.result c.count.result
    c.as_automaton.ensures.same c.as_automaton.ensures.automaton c.count.ensures c.in_ok-none.ensures.letters c.in_ok-none.ensures.states c.in_ok-none.ensures.start c.in_ok-none.ensures.language
