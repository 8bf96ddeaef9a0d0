use Rattle.rela_build.proofs.MadePairs as pairs
use Rattle.rela_build.proofs.builder.Builder.product.Goals as goal

pub returns : goal.returns
returns g c x y one two =
    pairs.product g.C.Complements.tells_all _ g.P.PathSets.paths c.built_terms_are_placed.ensures c.args.self.now.letters.now c.args.self.now.paths.now x y c.args.parts.first c.args.parts.second c.in_ok-product.product c.as_transducer.result
    one two c.as_transducer.ensures.same c.as_transducer.ensures.machine c.in_ok-product.ensures.letters c.in_ok-product.ensures.states c.in_ok-product.ensures.first c.in_ok-product.ensures.second c.in_ok-product.ensures.relation
