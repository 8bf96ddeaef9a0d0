use Rattle.std.proofs.lemmas.Result.{IfOk-weaker}
use Rattle.rela_nfa.specs.Runs.{Accepts}
use Rattle.rela_trans.specs.Runs.{Relates}
use Rattle.rela_witness.proofs.Firsts.{first_of_both, none_of_both}
use Rattle.rela_witness.proofs.related.least_source.Goals as goal

pub returns-in-Ok-clause-found : goal.returns-in-Ok-clause-found
returns-in-Ok-clause-found g c =
    IfOk-weaker c.least_word.result _ _ (first_of_both (Accepts c.in-Ok.accepted) (Accepts c.args.a.now) (Accepts c.in_ok-sources.sources)
    (λ u. Relates (λ k. k) c.args.transducer.now u c.args.v.now) c.in-Ok.ensures.language c.in_ok-sources.ensures.language) c.least_word.ensures.found

pub returns-in-Ok-clause-none : goal.returns-in-Ok-clause-none
returns-in-Ok-clause-none g c =
    IfOk-weaker c.least_word.result _ _ (none_of_both (Accepts c.in-Ok.accepted) (Accepts c.args.a.now) (Accepts c.in_ok-sources.sources)
    (λ u. Relates (λ k. k) c.args.transducer.now u c.args.v.now) c.in-Ok.ensures.language c.in_ok-sources.ensures.language) c.least_word.ensures.none
