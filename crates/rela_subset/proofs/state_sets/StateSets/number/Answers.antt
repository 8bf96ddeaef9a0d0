use Rattle.std.proofs.Common.{◌≡◌, ◌++◌, ◌∷◌, [], ◌⊎◌, length, subst, ◌∙◌}
use Rattle.rela_subset.proofs.SetsFound.{distinct_sets, number_at, number_grown, sets_of}
use Rattle.rela_subset.proofs.state_sets.StateSets.number.Goals as goal

pub invariant_of-self-2 : goal.invariant_of-self-2
invariant_of-self-2 c = distinct_sets c.insert_full.new.self.keys c.insert_full.ensures.unique

pub returns-clause-at : goal.returns-clause-at
returns-clause-at c =
    number_at c.insert_full.new.self.keys c.in_ok-number.number c.in_ok-copy.copy c.in_ok-number.ensures.within c.in_ok-number.ensures.stored ∙ c.in_ok-copy.ensures.items

pub returns-clause-grown : goal.returns-clause-grown
returns-clause-grown c =
    let new = c.insert_full.new.self.keys in
    subst (λ items. (sets_of new ≡ c.args.self.now) ⊎ ((sets_of new ≡ c.args.self.now ++ items ∷ []) × (c.in_ok-number.number ≡ length c.args.self.now))) c.in_ok-copy.ensures.items
    (subst (λ old. (sets_of new ≡ old) ⊎ ((sets_of new ≡ old ++ c.in_ok-copy.copy.items ∷ []) × (c.in_ok-number.number ≡ length old))) c.self.view_is
    (number_grown c.self.inside.sets.keys new c.in_ok-number.number c.in_ok-copy.copy c.in_ok-number.ensures.keys c.insert_full.ensures.unique c.in_ok-number.ensures.within
    (number_at new c.in_ok-number.number c.in_ok-copy.copy c.in_ok-number.ensures.within c.in_ok-number.ensures.stored)))
