use Rattle.std.proofs.lemmas.Result.{err_from_is_err_and}
use Rattle.rela_build.proofs.LimitForms as limits
use Rattle.rela_build.proofs.MadePairs as pairs
use Rattle.rela_build.proofs.builder.Builder.compose.Goals as goal

pub returns-clause-made : goal.returns-clause-made
returns-clause-made g c x y one two =
    pairs.compose g.C.Complements.tells_all _ g.P.PathSets.paths c.built_terms_are_placed.ensures c.args.self.now.letters.now c.args.self.now.paths.now x y c.args.parts.first c.args.parts.second c.in_ok-composition.composition c.as_transducer.result
    c.are_covered.ensures.letters one two c.as_transducer.ensures.same c.as_transducer.ensures.machine c.in_ok-composition.ensures.letters c.in_ok-composition.ensures.pairs c.in_ok-composition.ensures.relation

pub returns-in_err-composition-clause-limit : goal.returns-in_err-composition-clause-limit
returns-in_err-composition-clause-limit g c =
    let p = err_from_is_err_and c.from_residual.result c.from_residual.ensures.1 in
    rw (p.1, p.2) (λ is q r one two.
    limits.compose g.C.Complements.tells_all _ g.P.PathSets.paths c.reached_states_are_places.ensures c.args.self.now.letters.now c.args.self.now.paths.now c.are_covered.ensures.letters c.are_covered.ensures.symbols
    q r c.args.parts.first c.args.parts.second one two c.args.self.now.limit (c.in_err-composition.ensures.limit is))
