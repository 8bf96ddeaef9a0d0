use Rattle.std.proofs.lemmas.Result.{err_from_is_err_and}
use Rattle.rela_build.proofs.LimitForms as limits
use Rattle.rela_build.proofs.MadeTerms as terms
use Rattle.rela_build.proofs.builder.Builder.image.Goals as goal

pub returns-clause-made : goal.returns-clause-made
returns-clause-made g c x r one two =
    terms.image g.C.Complements.tells_all _ g.P.PathSets.paths c.built_terms_are_placed.ensures c.args.self.now.letters.now c.args.self.now.paths.now x r c.args.words c.args.pairs c.in_ok-image.image c.as_automaton.result
    c.are_covered.ensures.letters one two c.as_automaton.ensures.same c.as_automaton.ensures.automaton c.in_ok-image.ensures.letters c.in_ok-image.ensures.pairs c.in_ok-image.ensures.language

pub returns-in_err-image-clause-limit : goal.returns-in_err-image-clause-limit
returns-in_err-image-clause-limit g c =
    let p = err_from_is_err_and c.from_residual.result c.from_residual.ensures.1 in
    rw (p.1, p.2) (λ is x r one two.
    limits.image g.C.Complements.tells_all _ g.P.PathSets.paths c.reached_states_are_places.ensures c.args.self.now.letters.now c.args.self.now.paths.now c.are_covered.ensures.letters c.are_covered.ensures.symbols
    x r c.args.words c.args.pairs one two c.args.self.now.limit (c.in_err-image.ensures.limit is))
