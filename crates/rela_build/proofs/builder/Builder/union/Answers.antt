use Rattle.rela_build.proofs.MadeTerms as terms
use Rattle.rela_build.proofs.builder.Builder.union.Goals as goal

pub returns : goal.returns
returns g c x y one two =
    terms.union g.C.Complements.tells_all _ g.P.PathSets.paths c.built_terms_are_placed.ensures c.args.self.now.letters.now c.args.self.now.paths.now x y c.args.parts.first c.args.parts.second c.in_ok-union.union c.as_automaton.result
    one two c.as_automaton.ensures.same c.as_automaton.ensures.automaton c.in_ok-union.ensures.letters c.in_ok-union.ensures.states c.in_ok-union.ensures.start c.in_ok-union.ensures.first c.in_ok-union.ensures.second c.in_ok-union.ensures.language
