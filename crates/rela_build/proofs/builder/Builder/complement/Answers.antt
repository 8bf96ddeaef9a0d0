use Rattle.rela_build.proofs.MadeTerms as terms
use Rattle.rela_build.proofs.builder.Builder.complement.Goals as goal

pub returns-in_ok-push-in-Ok-clause-made : goal.returns-in_ok-push-in-Ok-clause-made
returns-in_ok-push-in-Ok-clause-made g c x one =
    terms.complement g.C.Complements.tells_all _ g.P.PathSets.paths c.built_terms_are_placed.ensures c.args.self.now.letters.now c.args.self.now.paths.now x c.args.part.now c.in-Ok.answer.nfa one
    c.path.result.now c.path.ensures c.in-Ok.ensures.complement c.in-Ok.ensures.told
