use Rattle.rela_build.proofs.MadePairs as pairs
use Rattle.rela_build.proofs.builder.Builder.relation_star.Goals as goal

pub returns : goal.returns
returns g c x one =
    pairs.star g.C.Complements.tells_all _ g.P.PathSets.paths c.built_terms_are_placed.ensures c.args.self.now.letters.now c.args.self.now.paths.now x c.args.pairs c.in_ok-star.star c.as_transducer.result
    one c.as_transducer.ensures.same c.as_transducer.ensures.machine c.in_ok-star.ensures.letters c.in_ok-star.ensures.states c.in_ok-star.ensures.start c.in_ok-star.ensures.copies c.in_ok-star.ensures.relation
