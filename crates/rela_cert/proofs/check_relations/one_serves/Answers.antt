use Rattle.std.proofs.Common.{◌≡◌, subst}
use Rattle.rela_translate.specs.Terms.{after_of, before_of}
use Rattle.rela_translate.specs.declared.body.Core.{Core}
use Rattle.rela_cert.proofs.check_relations.one_serves.Goals as goal

pub returns-then-treats_sides_alike-clause-terms : goal.returns-then-treats_sides_alike-clause-terms
returns-then-treats_sides_alike-clause-terms c told n =
    subst (λ (body : Core). before_of n body ≡ after_of n body) c.body.ensures.body (c.treats_sides_alike.ensures c.if-treats_sides_alike.true n)
