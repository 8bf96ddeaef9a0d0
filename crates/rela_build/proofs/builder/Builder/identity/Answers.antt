use Rattle.rela_build.proofs.MadePairs as pairs
use Rattle.rela_build.proofs.builder.Builder.identity.Goals as goal

pub returns : goal.returns
returns g c x one =
    pairs.identity g.C.Complements.tells_all _ g.P.PathSets.paths c.built_terms_are_placed.ensures c.args.self.now.letters.now c.args.self.now.paths.now x c.args.words c.in_ok-identity.identity c.as_transducer.result
    one c.as_transducer.ensures.same c.as_transducer.ensures.machine c.in_ok-identity.ensures.letters c.in_ok-identity.ensures.states c.in_ok-identity.ensures.reached c.in_ok-identity.ensures.relation
