use Rattle.std.proofs.lemmas.Result.{err_from_is_err_and}
use Rattle.rela_build.proofs.LimitForms as limits
use Rattle.rela_build.proofs.MadeTerms as terms
use Rattle.rela_build.proofs.builder.Builder.meet.Goals as goal

pub returns-clause-made : goal.returns-clause-made
returns-clause-made g c x y one two =
    terms.meet g.C.Complements.tells_all _ g.P.PathSets.paths c.built_terms_are_placed.ensures c.args.self.now.letters.now c.args.self.now.paths.now x y c.args.parts.first c.args.parts.second c.in_ok-meet.meet c.as_automaton.result
    one two c.as_automaton.ensures.same c.as_automaton.ensures.automaton c.in_ok-meet.ensures.letters c.in_ok-meet.ensures.pairs c.in_ok-meet.ensures.language

pub returns-in_err-meet-clause-limit : goal.returns-in_err-meet-clause-limit
returns-in_err-meet-clause-limit g c =
    let p = err_from_is_err_and c.from_residual.result c.from_residual.ensures.1 in
    rw (p.1, p.2) (λ is x y one two.
    limits.meet g.C.Complements.tells_all _ g.P.PathSets.paths c.reached_states_are_places.ensures c.args.self.now.letters.now c.args.self.now.paths.now c.are_covered.ensures.letters c.are_covered.ensures.symbols
    x y c.args.parts.first c.args.parts.second one two c.args.self.now.limit (c.in_err-meet.ensures.limit is))
