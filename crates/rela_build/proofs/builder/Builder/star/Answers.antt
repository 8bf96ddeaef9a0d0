use Rattle.rela_build.proofs.MadeTerms as terms
use Rattle.rela_build.proofs.builder.Builder.star.Goals as goal

pub returns : goal.returns
returns g c x one =
    terms.star g.C.Complements.tells_all _ g.P.PathSets.paths c.built_terms_are_placed.ensures c.args.self.now.letters.now c.args.self.now.paths.now x c.args.words c.in_ok-star.star c.as_automaton.result
    one c.as_automaton.ensures.same c.as_automaton.ensures.automaton c.in_ok-star.ensures.letters c.in_ok-star.ensures.states c.in_ok-star.ensures.start c.in_ok-star.ensures.copies c.in_ok-star.ensures.language
